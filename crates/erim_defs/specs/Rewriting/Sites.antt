-- Where an image can be rewritten: the regions of instructions round its unsafe sequences, and why
-- there are none. Own, after ERIM (USENIX Security 2019), section 4.2.
use Rattle.std.specs.Prelude.{ℕ, zero, suc, ◌+◌, ◌==◌, ◌&&◌, ◌||◌, not, max, nat_le, nat_lt, Bool}
use Rattle.std.specs.Prelude.{true, false, List, [], ◌∷◌, ◌++◌, length, sum_by, Option, Some, None}
use Rattle.std.specs.Prelude.{is_some, Result, Ok, Err, if◌then◌else◌}
use Rattle.std.specs.List.{list_any, flat_map}
use Rattle.erim_defs.specs.declared.found.Found.{Found}
use Rattle.erim_defs.specs.declared.insn.Insn.{Insn}
use Rattle.erim_defs.specs.declared.insn.Insn.TheVariants.{Mov, MovWide, Call, CallTo, Syscall}
use Rattle.erim_defs.specs.declared.insn.Insn.TheVariants.{Wrpkru, Xrstor}
use Rattle.erim_defs.specs.declared.insn.Place.TheVariants.{Reg, High}
use Rattle.erim_defs.specs.declared.insn.Src.TheVariants.{Imm}
use Rattle.erim_defs.specs.declared.rewriting.Why.{Why}
use Rattle.erim_defs.specs.declared.rewriting.Why.TheVariants as reasons
use Rattle.erim_defs.specs.Inspection.Trust.{TrustValue, in_text_of}
use Rattle.erim_defs.specs.Inspection.Unsafe.{option_list}
use Rattle.erim_defs.specs.Rewriting.Standing.{Standing, insn_end, sweep, in_part, in_disp}
use Rattle.erim_defs.specs.Rewriting.Standing.{in_number, rel_of, has_rip, target_of}

-- ---- functions

-- a function: its address and its bytes
pub record Function : Type 0 where
  pub start : ℕ
  pub bytes : List ℕ

-- what of an image rewriting looks at
pub record Program : Type 0 where
  pub functions : List Function
  pub trust : TrustValue
  pub entry : ℕ

-- the instructions of a function from its start on, as far as they decode
abbrev pub insns_of : Function → List Standing
insns_of f = sweep (length f.bytes) f.start f.bytes

abbrev pub in_function : ℕ → Function → Bool
in_function a f = in_part f.start (length f.bytes) a

-- its bytes decode up to its end
abbrev pub is_whole : Function → Bool
is_whole f = sum_by (λ i. length i.bytes) (insns_of f) == length f.bytes

-- the first of a list that passes a test
unfoldable pub first_of : {X : Type 0} → (X → Bool) → List X → Option X
first_of test [] = None
first_of test (x ∷ xs) = if test x then Some x else first_of test xs

abbrev pub insns_in : Option Function → List Standing
insns_in None = []
insns_in (Some f) = insns_of f

-- instructions from the one on that holds an address
abbrev pub insns_from : ℕ → List Standing → List Standing
insns_from a [] = []
insns_from a (i ∷ is) = if nat_le (insn_end i) a then insns_from a is else i ∷ is

-- ---- regions

-- A region: the instructions of its function from its first one on, and the unsafe sequences that
-- it is for, by rising address. It takes no more of the instructions than it needs.
pub record Region : Type 0 where
  pub from : List Standing
  pub elements : List Found

abbrev pub start_of : List Standing → ℕ
start_of [] = 0
start_of (i ∷ is) = i.at

abbrev pub end_of : List Standing → ℕ
end_of [] = 0
end_of (i ∷ []) = insn_end i
end_of (i ∷ is) = end_of is

abbrev pub region_start : Region → ℕ
region_start r = start_of r.from

-- up to where it has to go: it has 5 bytes at least, for a jump, and all bytes of its elements
abbrev pub goal : ℕ → List Found → ℕ
goal start [] = start + 5
goal start (e ∷ es) = max (e.at + e.len) (goal start es)

abbrev pub region_goal : Region → ℕ
region_goal r = goal (region_start r) r.elements

-- the shortest front that reaches an address, or all
abbrev pub reaching : ℕ → List Standing → List Standing
reaching a [] = []
reaching a (i ∷ is) = i ∷ (if nat_le a (insn_end i) then [] else reaching a is)

abbrev pub region_insns : Region → List Standing
region_insns r = reaching (region_goal r) r.from

abbrev pub region_end : Region → ℕ
region_end r = end_of (region_insns r)

-- the region of an element alone
abbrev pub region_at : Program → Found → Region
region_at p e = record {
  from = insns_from e.at (insns_in (first_of (in_function e.at) p.functions));
  elements = e ∷ [];
}

-- an element whose first byte lies in the region before is taken into that
abbrev pub joins : Region → Found → Bool
joins r e = nat_lt e.at (region_end r)

-- the region of an element, after another or none; begin makes that of an element alone
abbrev pub region_for : (Found → Region) → Option Region → Found → Region
region_for begin None e = begin e
region_for begin (Some r) e =
    if joins r e then record r { elements = r.elements ++ e ∷ [] } else begin e

-- ---- why an element can't be rewritten, on its region as it stands once the element is taken in

-- n addresses from one on
unfoldable pub addresses : ℕ → ℕ → List ℕ
addresses a zero = []
addresses a (suc n) = a ∷ addresses (suc a) n

-- a byte of an element passes a test; its core is its first three bytes
abbrev pub some_byte : (ℕ → Bool) → Found → Bool
some_byte test e = list_any test (addresses e.at e.len)

abbrev pub some_core : (ℕ → Bool) → Found → Bool
some_core test e = list_any test (addresses e.at 3)

abbrev pub is_intended : Insn → Bool
is_intended Wrpkru = true
is_intended (Xrstor m) = true
is_intended other = false

abbrev pub is_call : Insn → Bool
is_call (Call rel) = true
is_call (CallTo to) = true
is_call Syscall = true
is_call other = false

-- where control may come from elsewhere: direct branches of the functions as far as they decode,
-- entries, and the entry point
abbrev pub branch_targets : Function → List ℕ
branch_targets f = flat_map (λ i. option_list (target_of i)) (insns_of f)

abbrev pub targets : Program → List ℕ
targets p = flat_map branch_targets p.functions ++ (p.trust.entries ++ p.entry ∷ [])

-- the core lies wholly in an instruction
abbrev pub holds_core : Found → Standing → Bool
holds_core e i = nat_le i.at e.at && nat_le (e.at + 3) (insn_end i)

-- the core lies wholly in one of some instructions, and that passes a test
abbrev pub core_in : List Standing → Found → (Standing → Bool) → Bool
core_in is e test = list_any (λ i. holds_core e i && test i) is

-- MOV of an immediate into a register
abbrev pub moves_number : Insn → Bool
moves_number (MovWide r imm) = true
moves_number (Mov w (Reg r) (Imm z)) = true
moves_number (Mov w (High r) (Imm z)) = true
moves_number other = false

-- the core touches a displacement without RIP
abbrev pub in_plain_disp : Found → Standing → Bool
in_plain_disp e i = some_core (in_disp i) e && not (has_rip i)

-- the core touches an immediate that isn't moved into a register
abbrev pub in_plain_number : Found → Standing → Bool
in_plain_number e i =
    some_core (in_number i) e && not (is_some (rel_of i.insn) || moves_number i.insn)

-- the core touches neither a displacement nor the number that ends it
abbrev pub in_opcode : Found → Standing → Bool
in_opcode e i = not (some_core (λ a. in_disp i a || in_number i a) e)

-- what each reason asks, in their order, of a region by its start, its goal and its instructions
abbrev pub tests : Program → ℕ → ℕ → List Standing → Found → List (Bool × Why)
tests p start goal is e =
    (some_byte (in_text_of p.trust) e, reasons.Trusted)
    ∷ (some_byte (λ a. not (list_any (in_function a) p.functions)) e, reasons.Outside)
    ∷ (not (list_any (λ f. in_function e.at f && is_whole f) p.functions), reasons.Undecoded)
    ∷ (list_any (λ i. is_intended i.insn) is, reasons.Intended)
    ∷ (list_any (λ i. is_call i.insn) is, reasons.Call)
    ∷ (nat_lt (end_of is) goal, reasons.Room)
    ∷ (list_any (λ t. nat_lt start t && nat_lt t (end_of is)) (targets p), reasons.Target)
    ∷ (core_in is e (in_plain_disp e), reasons.Displacement)
    ∷ (core_in is e (in_plain_number e), reasons.Immediate)
    ∷ (core_in is e (in_opcode e), reasons.Opcode)
    ∷ []

-- the first that holds
abbrev pub first_why : List (Bool × Why) → Option Why
first_why [] = None
first_why (x ∷ xs) = if x.0 then Some x.1 else first_why xs

unfoldable pub why : Program → Region → Found → Option Why
why p r e = first_why (tests p (region_start r) (region_goal r) (region_insns r) e)

-- ---- all regions

-- the first element that can't be rewritten, and why
pub record Obstacle : Type 0 where
  pub at : ℕ
  pub why : Why

-- the region before, where an element doesn't join it
abbrev pub left_by : Option Region → Found → List Region
left_by None e = []
left_by (Some r) e = if joins r e then [] else r ∷ []

abbrev pub with_regions : List Region → Result (List Region) Obstacle
    → Result (List Region) Obstacle
with_regions before (Ok regions) = Ok (before ++ regions)
with_regions before (Err refused) = Err refused

abbrev pub or_refuse : Option Why → Found → Result (List Region) Obstacle
    → Result (List Region) Obstacle
or_refuse (Some w) e regions = Err (record { at = e.at; why = w })
or_refuse None e regions = regions

-- the regions of elements by rising address, or the first that is refused by a judge of regions;
-- before is the region that was begun last
unfoldable pub regions_by : (Found → Region) → (Region → Found → Option Why) → Option Region
    → List Found
    → Result (List Region) Obstacle
regions_by begin judge before [] = Ok (option_list before)
regions_by begin judge before (e ∷ es) =
    let r = region_for begin before e in
    or_refuse (judge r e) e (with_regions (left_by before e) (regions_by begin judge (Some r) es))

abbrev pub regions_from : Program → Option Region → List Found → Result (List Region) Obstacle
regions_from p = regions_by (region_at p) (why p)
