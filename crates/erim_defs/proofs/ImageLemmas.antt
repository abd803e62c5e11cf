-- What the place of a segment says, as facts.
use Rattle.std.proofs.Common.{◌≡◌, ℕ, ◌+◌, ◌^◌, ◌<◌, ◌≤◌, true}
use Rattle.std.proofs.lemmas.Bool.{and_from, and_parts, leb-true, le-leb}
use Rattle.erim_defs.specs.declared.segment.Segment.{Segment}
use Rattle.erim_defs.specs.Inspection.Image.{IsPlaced, is_in_file, is_in_user}

-- the segment lies in user memory
pub record IsInUser (s : Segment) : Type 0 where
  pub part : s.filesz ≤ s.memsz
  pub above : 0x10000 ≤ s.vaddr
  pub user : s.vaddr + s.memsz ≤ 2 ^ 47

pub in_user_view : (s : Segment) → is_in_user s ≡ true → IsInUser s
in_user_view s h =
    let p = and_parts _ _ h in
    let q = and_parts _ _ p.1 in
    let r = and_parts _ _ q.1 in
    record { part = leb-true _ _ p.0; above = leb-true _ _ q.0; user = leb-true _ _ r.0 }

-- a segment of which both tests hold lies where it may
pub placed_from : (file_length : ℕ) (s : Segment) → is_in_file file_length s ≡ true
    → is_in_user s ≡ true → 0 < s.memsz → IsPlaced file_length s
placed_from file_length s file user some =
    let p = and_parts _ _ user in
    let q = and_parts _ _ p.1 in
    let r = and_parts _ _ q.1 in
    record {
      file = leb-true _ _ file;
      part = leb-true _ _ p.0;
      above = leb-true _ _ q.0;
      user = leb-true _ _ r.0;
      off_stack = r.1;
      some = some;
    }

-- and the other way
pub placed_in_file : (file_length : ℕ) (s : Segment) → IsPlaced file_length s
    → is_in_file file_length s ≡ true
placed_in_file file_length s h = le-leb _ _ h.file

pub placed_in_user : (file_length : ℕ) (s : Segment) → IsPlaced file_length s → is_in_user s ≡ true
placed_in_user file_length s h =
    and_from _ _ (le-leb _ _ h.part)
    (and_from _ _ (le-leb _ _ h.above) (and_from _ _ (le-leb _ _ h.user) h.off_stack))
