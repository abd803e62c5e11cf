use Rattle.std.proofs.Common.{◌≡◌, ◌++◌, drop}
use Rattle.rewrite_sites.specs.Shown.{sites_of}
use Rattle.rewrite_sites.proofs.sites.sites_of.Given as goal

abbrev pub invariant-loop-region : goal.invariant-loop-region
invariant-loop-region l =
    l.list.items ++ sites_of (drop l.region-index l.regions) ≡ sites_of l.regions
