-- The sites of regions, and what a fault says. Own.
use Rattle.std.specs.Prelude.{◌≡◌, ℕ, ◌-◌, List, [], ◌∷◌, ◌++◌, Result, Ok, Err}
use Rattle.erim_defs.specs.declared.found.Found.{Found}
use Rattle.erim_defs.specs.Rewriting.Sites.{Region, Obstacle, region_end, region_start}
use Rattle.rewrite_sites.specs.declared.sites.Site.{Site}
use Rattle.rewrite_sites.specs.declared.regions.SiteFault.{SiteFault}
use Rattle.rewrite_sites.specs.declared.regions.SiteFault.TheVariants.{Cannot, Memory}

-- a site is a region with its first element
abbrev pub site_at : List Found → ℕ → ℕ → List Site
site_at [] start end = []
site_at (e ∷ es) start end = record { found = e; start = start; length = end - start } ∷ []

abbrev pub sites_of : List Region → List Site
sites_of [] = []
sites_of (r ∷ rs) = site_at r.elements (region_start r) (region_end r) ++ sites_of rs

abbrev pub sites_or_obstacle : Result (List Region) Obstacle → Result (List Site) Obstacle
sites_or_obstacle (Ok regions) = Ok (sites_of regions)
sites_or_obstacle (Err refused) = Err refused

-- the fault is the first that is refused, or memory ran out
abbrev pub FaultIs : {X : Type 0} → Result X Obstacle → SiteFault → Type 0
FaultIs sites (Cannot at why) = sites ≡ Err (record { at = at; why = why })
FaultIs sites Memory = Unit {0}
