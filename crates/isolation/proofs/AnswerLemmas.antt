-- What an answer of a call says, and that a change that leaves the pages is fine.
use Rattle.std.proofs.Common.{◌≡◌, ◌/◌, ℕ, Option, Some, None, Bool, true, false, cond}
use Rattle.std.proofs.Common.{is_some, refl, sym, ap, subst, ◌∙◌, inl}
use Rattle.erim_defs.specs.declared.machine.Thread.{Thread}
use Rattle.erim_defs.specs.Machine.Pages.{RightsMap, ByteMap, published_code}
use Rattle.erim_defs.specs.Machine.Domains.{opened_domains}
use Rattle.erim_defs.specs.Machine.State.{State, code, trust_of}
use Rattle.erim_defs.specs.Machine.CallResult.{Change, Answer, or_refuse, CallResult}
use Rattle.erim_defs.specs.Machine.Isolation.{HasTaken, IsKept, KeepsText}
use Rattle.isolation.proofs.ThreadLemmas.{origins_same}
use Rattle.isolation.proofs.KeptLemmas.{IsCopy, IsFine}

-- ---- answers

-- an answer is no refusal
pub refuse_answer : (b : Bool) (e v : ℕ) (r : CallResult) (c : Change)
    → or_refuse b e r ≡ Answer v c → (b ≡ false) × (r ≡ Answer v c)
refuse_answer true e v r c h = absurd cc
refuse_answer false e v r c h = (refl, h)

pub answer_is : (v w : ℕ) (c d : Change) → Answer v c ≡ Answer w d → c ≡ d
answer_is v w c d h = cc

-- a row of the table of calls, and the rest of it
pub row_answer : (P : Type 0) (b : Bool) (x y : CallResult) (v : ℕ) (c : Change)
    → (x ≡ Answer v c → P) → (y ≡ Answer v c → P) → cond b x y ≡ Answer v c → P
row_answer P true x y v c f g h = f h
row_answer P false x y v c f g h = g h

-- the same, where the row says more
pub row_here : (P : Type 0) (b : Bool) (x y : CallResult) (v : ℕ) (c : Change)
    → (b ≡ true → x ≡ Answer v c → P) → (y ≡ Answer v c → P) → cond b x y ≡ Answer v c → P
row_here P true x y v c f g h = f refl h
row_here P false x y v c f g h = g h

pub none_of : {X : Type 0} (o : Option X) → is_some o ≡ false → o ≡ None
none_of None h = refl
none_of (Some x) h = absurd cc

-- ---- changes that leave the pages

-- a page of trusted text that a change leaves
pub text_left : (s : State) (rights : RightsMap) (bytes : ByteMap) (q : ℕ)
    → KeepsText s.setup s.rights s.bytes q → rights q ≡ s.rights q
    → ((a : ℕ) → a / 4096 ≡ q → bytes a ≡ s.bytes a) → KeepsText s.setup rights bytes q
text_left s rights bytes q k e f = record {
  held = k.held;
  mapped = e ∙ k.mapped;
  exec = k.exec;
  asks = k.asks;
  key = k.key;
  same = λ a h. f a h ∙ k.same a h;
}

-- key 0 and the domains stay taken, the caller opens what it opened, and a thread that is made is a
-- copy
pub record LeavesPages (s : State) (t : Thread) (c : Change) : Type 0 where
  pub rights : c.rights ≡ s.rights
  pub bytes : c.bytes ≡ s.bytes
  pub keys : HasTaken (trust_of s) c.keys
  pub pkru : opened_domains (trust_of s) c.pkru ≡ opened_domains (trust_of s) t.pkru
  pub made : (u : Thread) → c.clone ≡ Some u → IsCopy t u

pub left_fine : (N : ℕ → Type 0) (s : State) (t : Thread) (c : Change) → IsKept s
    → LeavesPages s t c → IsFine N s t c
left_fine N s t c h l =
    let page = λ (q : ℕ). ap (λ (f : RightsMap). f q) l.rights in
    let byte = λ (a : ℕ). ap (λ (f : ByteMap). f a) l.bytes in
    let same = λ (x : ℕ). ap (λ (f : RightsMap). published_code f c.bytes x) l.rights
    ∙ ap (λ (f : ByteMap). published_code s.rights f x) l.bytes in
    record {
      ruled = λ q r e. h.ruled q r (sym (page q) ∙ e);
      loses = λ x. inl (same x);
      text = λ q y. text_left s c.rights c.bytes q (h.text q y) (page q) (λ a e. byte a);
      keys = l.keys;
      origins = origins_same (published_code c.rights c.bytes) (code s) s.threads same;
      low = λ q high. page q ∙ h.low q high;
      zeros = λ a n. byte a ∙ h.zeros a (sym (page (a / 4096)) ∙ n);
      pkru = l.pkru;
      made = l.made;
      kind = λ bytes of a. subst N (sym (byte a)) (of a);
    }
