-- The first free page, by a search from the highest one on.
use Rattle.std.proofs.Common.{◌≡◌, ℕ, ◌+◌, ◌<◌, List, not, true, false, refl, arith}
use Rattle.erim_defs.specs.declared.segment.Segment.{Segment}
use Rattle.erim_defs.specs.Rewriting.NewFile.{free_page, high_page, is_taken}
use Rattle.erim_defs.proofs.LeastLemmas.{least_found, least_none}

pub page_found : (ss : List Segment) (p : ℕ) → p < 4081
    → not (is_taken ss (high_page ss + p)) ≡ true
    → ((k : ℕ) → k < p → not (is_taken ss (high_page ss + k)) ≡ false)
    → high_page ss + p ≡ free_page ss
unfolding free_page
page_found ss p low free others =
    rw (least_found 4081 p (λ n. not (is_taken ss (high_page ss + n))) low free others) refl

pub page_none : (ss : List Segment)
    → ((k : ℕ) → k < 4081 → not (is_taken ss (high_page ss + k)) ≡ false)
    → high_page ss ≡ free_page ss
unfolding free_page
page_none ss others =
    rw (least_none 4081 (λ n. not (is_taken ss (high_page ss + n))) others) (omega arith)
