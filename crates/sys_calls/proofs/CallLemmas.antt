-- What write answers.
use Rattle.std.proofs.Common.{◌≡◌, ◌≢◌, ℕ, ◌+◌, ◌%◌, ◌^◌, ◌<◌, ◌≤◌, ◌∙◌, ◌++◌, List, length}
use Rattle.std.proofs.Common.{Option, Some, None, true, false, sym, ap, refl, ne_eqb}
use Rattle.std.specs.Prelude.{is_none, is_some}
use Rattle.std.proofs.lemmas.Bool.{lt-ltb, le-ltb}
use Rattle.erim_defs.specs.declared.machine.Access.{Access}
use Rattle.erim_defs.specs.declared.machine.Thread.{Thread}
use Rattle.erim_defs.specs.Machine.Access.{stop, whole}
use Rattle.erim_defs.specs.Machine.CallResult.{Refusal, Answer, no_change}
use Rattle.erim_defs.specs.Machine.Calls.{write_result}
use Rattle.erim_defs.specs.Machine.Pages.{RightsMap, ByteMap, bytes_of_range}
use Rattle.erim_defs.specs.Machine.State.{State}

some_of : (o : Option Access) → false ≡ is_none o → is_some o ≡ true
some_of None h = absurd cc
some_of (Some a) h = refl

pub none_of : (o : Option Access) → true ≡ is_none o → o ≡ None
none_of None h = refl
none_of (Some a) h = absurd cc

pub bad_file : (s : State) (t : Thread) (fd buf n : ℕ) → fd % 2 ^ 32 ≢ 1
    → write_result s t fd buf n ≡ Refusal 9
unfolding write_result
bad_file s t fd buf n h = rw (ne_eqb (fd % 2 ^ 32) 1 h) refl

pub unreadable : (s : State) (t : Thread) (rights : RightsMap) (pkru fd buf n : ℕ)
    → s.rights ≡ rights → t.pkru ≡ pkru → fd % 2 ^ 32 ≡ 1
    → false ≡ is_none (stop (whole rights) false pkru buf n)
    → write_result s t fd buf n ≡ Refusal 14
unfolding write_result
unreadable s t rights pkru fd buf n er ep ef h =
    let some : is_some (stop (whole s.rights) false t.pkru buf n) ≡ true =
    rw (er, ep) (some_of _ h) in
    rw (ef, some) refl

pub no_room : (s : State) (t : Thread) (rights : RightsMap) (output : List ℕ) (pkru fd buf n : ℕ)
    → s.rights ≡ rights → s.output ≡ output → t.pkru ≡ pkru → fd % 2 ^ 32 ≡ 1
    → true ≡ is_none (stop (whole rights) false pkru buf n) → 1048576 < length output + n
    → write_result s t fd buf n ≡ Refusal 28
unfolding write_result
no_room s t rights output pkru fd buf n er eo ep ef h l =
    let none : stop (whole s.rights) false t.pkru buf n ≡ None = rw (er, ep) (none_of _ h) in
    rw (ef, none, eo, lt-ltb 1048576 (length output + n) l) refl

pub written : (s : State) (t : Thread) (rights : RightsMap) (bytes : ByteMap)
    (output new : List ℕ) (pkru fd buf n : ℕ)
    → s.rights ≡ rights → s.bytes ≡ bytes → s.output ≡ output → t.pkru ≡ pkru
    → fd % 2 ^ 32 ≡ 1 → true ≡ is_none (stop (whole rights) false pkru buf n)
    → length output + n ≤ 1048576 → new ≡ output ++ bytes_of_range bytes buf n
    → write_result s t fd buf n
    ≡ Answer n (let c = no_change s t in record c { output = new })
unfolding write_result
written s t rights bytes output new pkru fd buf n er eb eo ep ef h l e =
    let none : stop (whole s.rights) false t.pkru buf n ≡ None = rw (er, ep) (none_of _ h) in
    rw (ef, none, eo, le-ltb 1048576 (length output + n) l)
    (ap (λ (o : List ℕ). Answer n (let c = no_change s t in record c { output = o }))
    (ap (λ (b : ByteMap). output ++ bytes_of_range b buf n) eb ∙ sym e))
