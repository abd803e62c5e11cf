-- Near some addresses the code with a candidate is what is seen of it.
use Rattle.std.proofs.Common.{◌≡◌, ℕ, ◌+◌, ◌-◌, ap, cond, Option}
use Rattle.erim_defs.specs.Rewriting.Layout.{Copy, covers, is_untouched, flatten}
use Rattle.image_code.specs.Stretches.{code_in}
use Rattle.copy_layout.specs.Trials.{Sight, Trial, near_patches, sight_code, tried_code}
use Rattle.copy_layout.specs.Trials.{tried_patches, tried_segment}
use Rattle.std.specs.Prelude.{slice_get}
use Rattle.copy_layout.proofs.FrontLemmas.{untouched_same}
use Rattle.copy_layout.proofs.TrialLemmas.{over_near}

pub untouched_near : (t : Trial) (k : Copy) (low high : ℕ)
    → is_untouched (sight_code (record {
      trial = t;
      copy = k;
      near = near_patches t k (low - 8) (high + 16);
    })) low high ≡ is_untouched (tried_code t k) low high
untouched_near t k low high =
    let near = near_patches t k (low - 8) (high + 16) in
    let sight : Sight = record { trial = t; copy = k; near = near } in
    untouched_same (sight_code sight) (tried_code t k) low high (λ a above below.
    ap (λ (x : Option ℕ). cond (covers (tried_segment t k) a)
    (flatten (slice_get (tried_segment t k).bytes (a - t.base))) x)
    (over_near (low - 8) (high + 16) a (tried_patches t k) (code_in t.code) above below))
