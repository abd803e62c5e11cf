-- Laws of parts, each once for all rows.
use Rattle.std.proofs.Common.{◌⊎◌, ◌≡◌, ℕ, zero, suc, ◌+◌, ◌-◌, ◌<◌, ◌≤◌, Bool, true, false, ltb}
use Rattle.std.proofs.Common.{cond, List, [], ◌∷◌, ◌++◌, length, take, drop, Result, Ok, Err, refl}
use Rattle.std.proofs.Common.{sym, ap, subst, ◌∙◌, append_assoc, arith, inl, inr}
use Rattle.std.proofs.lemmas.Bool.{ltb-true, ltb-false}
use Rattle.std.proofs.lemmas.List.{length-append, length-take-le, take-append-drop}
use Rattle.erim_defs.proofs.ByteLemmas.{bytes_append}
use Rattle.erim_defs.specs.declared.grammar.Stop.{Stop}
use Rattle.erim_defs.specs.declared.grammar.Stop.TheVariants.{Undefined, Short}
use Rattle.erim_defs.specs.Encoding.Cursor.{byte_at, chunk_at, ◌>>=◌}
use Rattle.erim_defs.specs.Encoding.Parts.{AreBytes, Byte, Chunk, Nothing, Never, When}
use Rattle.encoding_laws.proofs.Exact.{Meets, Wants, Exact, IsFree}
use Rattle.erim_defs.specs.Encoding.Decoding.{sooner_stop}

-- ---- bytes

pub bytes_take : (n : ℕ) (s : List ℕ) → AreBytes s → AreBytes (take n s)
bytes_take zero s h = tt
bytes_take (suc n) [] h = tt
bytes_take (suc n) (b ∷ s) h = (h.0, bytes_take n s h.1)

pub bytes_drop : (n : ℕ) (s : List ℕ) → AreBytes s → AreBytes (drop n s)
bytes_drop zero s h = h
bytes_drop (suc n) [] h = tt
bytes_drop (suc n) (b ∷ s) h = bytes_drop n s h.1

-- as many zeros
pub zeros : (n : ℕ) → (s : List ℕ) × AreBytes s × (length s ≡ n)
zeros zero = ([], tt, refl)
zeros (suc n) = let r = zeros n in (0 ∷ r.0, (omega arith, r.1), omega arith)

-- ---- nothing

pub nothing_exact : {A : Type 0} (v : A) (bytes : List ℕ) → Exact (Nothing v) bytes (Ok (v, bytes))
nothing_exact v bytes = record { encoding = []; is_encoding = (refl, refl); parts = refl }

pub nothing_free : {A : Type 0} (v : A) → IsFree (Nothing v)
nothing_free v = record { one = λ t u a b x y p q e. (p.0 ∙ sym q.0, p.1 ∙ sym q.1) }

pub never_exact : {A : Type 0} (bytes : List ℕ) → Exact {A = A} Never bytes (Err Undefined)
never_exact bytes = λ encoding a m. m.is_encoding

pub never_free : {A : Type 0} → IsFree {A = A} Never
never_free = record { one = λ t u a b x y p q e. absurd p }

-- ---- one byte

byte_meets : {A : Type 0} (S : ℕ → List ℕ → A → Type 0) (b : ℕ) (bytes encoding : List ℕ) (a : A)
    → Meets (Byte S) (b ∷ bytes) encoding a
    → (u : List ℕ) × (encoding ≡ b ∷ u) × Meets (S b) bytes u a
byte_meets S b bytes [] a m = absurd m.is_encoding
byte_meets {A} S b bytes (c ∷ u) a m =
    let e : b ∷ (bytes ++ m.after) ≡ c ∷ (u ++ m.rest) = m.same in
    let head : c ≡ b = cc in
    let rest : bytes ++ m.after ≡ u ++ m.rest = cc in
    let P : ℕ → Type 0 = λ n. S n u a in (
      u,
      ap (λ n. n ∷ u) head,
      record {
        is_encoding = subst P head m.is_encoding.1;
        after = m.after;
        rest = m.rest;
        same = rest;
      },
    )

pub byte_lift : {A : Type 0} (S : ℕ → List ℕ → A
    → Type 0) (b : ℕ) (bytes : List ℕ) (r : Result (A
    × List ℕ) Stop) → b < 256 → Exact (S b) bytes r → Exact (Byte S) (b ∷ bytes) r
byte_lift S b bytes (Ok x) lt h =
    record {
      encoding = b ∷ h.encoding;
      is_encoding = (lt, h.is_encoding);
      parts = ap (λ (s : List ℕ). b ∷ s) h.parts;
    }
byte_lift S b bytes (Err Undefined) lt h = λ encoding a m. let k =
    byte_meets S b bytes encoding a m in h k.0 a k.2
byte_lift S b bytes (Err (Short n)) lt h = record {
  more = h.more;
  tail = h.tail;
  value = h.value;
  is_encoding = (lt, h.is_encoding);
  long = h.long;
  least = λ encoding a m. let k = byte_meets S b bytes encoding a m in let e = h.least k.0 a k.2 in
      omega (arith, ap length k.1);
}

-- the shortest encodings have n bytes
pub record Sized {A : Type 0} (R : List ℕ → A → Type 0) (n : ℕ) : Type 0 where
  pub encoding : List ℕ
  pub value : A
  pub is_encoding : R encoding value
  pub long : length encoding ≡ n
  pub low : (u : List ℕ) (a : A) → R u a → n ≤ length u

-- what is to be said where the bytes end before the part
abbrev pub Ends : {A : Type 0} → (List ℕ → A → Type 0) → Stop → Type 0
Ends R (Short n) = (0 < n) × Sized R n
Ends {A} R Undefined = (u : List ℕ) (a : A) → R u a → ⊥

pub ends_exact : {A : Type 0} (R : List ℕ → A → Type 0) (stop : Stop) → Ends R stop
    → Exact R [] (Err stop)
ends_exact R (Short n) h =
    record {
      more = h.0;
      tail = h.1.encoding;
      value = h.1.value;
      is_encoding = h.1.is_encoding;
      long = h.1.long;
      least = λ encoding a m. let k : n ≤ length encoding =
          h.1.low encoding a m.is_encoding in omega arith;
    }
ends_exact R Undefined h = λ encoding a m. h encoding a m.is_encoding

pub byte_exact : {A : Type 0} (S : ℕ → List ℕ → A → Type 0) (s : ℕ × List ℕ
    → Result (A × List ℕ) Stop) (stop : Stop) → Ends (Byte S) stop → ((b : ℕ) (rest : List ℕ)
    → b < 256 → AreBytes rest
    → Exact (S b) rest (s (b, rest))) → (bytes : List ℕ) → AreBytes bytes → Exact (Byte
    S) bytes (byte_at stop bytes >>= s)
byte_exact S s stop ends each [] h = ends_exact (Byte S) stop ends
byte_exact S s stop ends each (b ∷ rest) h =
    byte_lift S b rest (s (b, rest)) h.0 (each b rest h.0 h.1)

-- the shortest encodings that begin with some byte
pub byte_sized : {A : Type 0} (S : ℕ → List ℕ → A → Type 0) (n b : ℕ) → b < 256 → Sized (S b) n
    → ((c : ℕ) (u : List ℕ) (a : A) → c < 256 → S c u a → n ≤ length u) → Sized (Byte S) (1 + n)
byte_sized S n b lt h low =
    record {
      encoding = b ∷ h.encoding;
      value = h.value;
      is_encoding = (lt, h.is_encoding);
      long = omega (arith, h.long);
      low = by_cases S n low;
    }
  where
    by_cases : {A : Type 0} (S : ℕ → List ℕ → A → Type 0) (n : ℕ)
        → ((c : ℕ) (u : List ℕ) (a : A) → c < 256 → S c u a → n ≤ length u) → (u : List ℕ) (a : A)
        → Byte S u a → 1 + n ≤ length u
    by_cases S n low [] a h = absurd h
    by_cases S n low (c ∷ u) a h = let k = low c u a h.0 h.1 in omega arith

pub byte_free : {A : Type 0} (S : ℕ → List ℕ → A → Type 0) → ((b : ℕ) → b < 256 → IsFree (S b))
    → IsFree (Byte S)
byte_free {A} S each = record { one = one }
  where
    one : (t u : List ℕ) (a b : A) (x y : List ℕ) → Byte S t a → Byte S u b → t ++ x ≡ u ++ y
        → (t ≡ u) × (a ≡ b)
    one [] u a b x y p q e = absurd p
    one (c ∷ t) [] a b x y p q e = absurd q
    one (c ∷ t) (d ∷ u) a b x y p q e =
        let e' : c ∷ (t ++ x) ≡ d ∷ (u ++ y) = e in
        let head : d ≡ c = cc in
        let rest : t ++ x ≡ u ++ y = cc in
        let P : ℕ → Type 0 = λ n. S n u b in
        let k = (each c p.0).one t u a b x y p.1 (subst P head q.1) rest in
        (cc, k.1)

-- ---- several bytes

-- lists of one length that begin one list are one
pub same_front : (s t x y : List ℕ) → length s ≡ length t → s ++ x ≡ t ++ y → (s ≡ t) × (x ≡ y)
same_front [] [] x y l e = (refl, e)
same_front [] (c ∷ t) x y l e = absurd (omega arith)
same_front (b ∷ s) [] x y l e = absurd (omega arith)
same_front (b ∷ s) (c ∷ t) x y l e =
    let e' : b ∷ (s ++ x) ≡ c ∷ (t ++ y) = e in
    let head : b ≡ c = cc in
    let rest : s ++ x ≡ t ++ y = cc in
    let k = same_front s t x y (omega arith) rest in
    (cc, k.1)

chunk_short : {A : Type 0} (n : ℕ) (S : List ℕ → List ℕ → A → Type 0) (least : ℕ)
    → ((front : List ℕ) → AreBytes front → length front ≡ n → Sized (S front) least)
    → (bytes : List ℕ) → AreBytes bytes → length bytes < n
    → Wants (Chunk n S) bytes (n - length bytes + least)
chunk_short n S least tails bytes h lt =
    let z = zeros (n - length bytes) in
    let front = bytes ++ z.0 in
    let are : AreBytes front = bytes_append bytes z.0 h z.1 in
    let long : length front ≡ n = omega (arith, length-append bytes z.0, z.2) in
    let k = tails front are long in
    record {
      more = omega arith;
      tail = z.0 ++ k.encoding;
      value = k.value;
      is_encoding = record {
        front = front;
        back = k.encoding;
        parts = sym
            (append_assoc bytes z.0 k.encoding);
        long = long;
        bytes = are;
        then = k.is_encoding;
      };
      long = omega (arith, length-append z.0 k.encoding, z.2, k.long);
      least = λ encoding a m.
          let c = m.is_encoding in
          let low = (tails c.front c.bytes c.long).low c.back a c.then in
          omega (arith, ap length c.parts, length-append c.front c.back, c.long);
    }

chunk_meets : {A : Type 0} (n : ℕ) (S : List ℕ → List ℕ → A
    → Type 0) (front rest encoding : List ℕ) (a : A) → length front ≡ n → Meets (Chunk n S) (front
    ++ rest) encoding a → (u : List ℕ) × (encoding ≡ front ++ u) × Meets (S front) rest u a
chunk_meets {A} n S front rest encoding a long m =
    let c = m.is_encoding in
    let e : front ++ (rest ++ m.after) ≡ c.front ++ (c.back ++ m.rest) =
    sym (append_assoc front rest m.after) ∙ m.same ∙ ap (λ (s : List ℕ). s ++ m.rest) c.parts
    ∙ append_assoc c.front c.back m.rest in
    let k = same_front front c.front (rest ++ m.after) (c.back ++ m.rest) (long ∙ sym c.long) e in
    let P : List ℕ → Type 0 = λ s. S s c.back a in (
      c.back,
      c.parts ∙ ap (λ (s : List ℕ). s
          ++ c.back) (sym k.0),
      record {
        is_encoding = subst P (sym k.0) c.then;
        after =
            m.after;
        rest = m.rest;
        same = k.1;
      },
    )

chunk_lift : {A : Type 0} (n : ℕ) (S : List ℕ → List ℕ → A
    → Type 0) (front rest : List ℕ) (r : Result (A
    × List ℕ) Stop) → AreBytes front → length front ≡ n → Exact (S front) rest r
    → Exact (Chunk n S) (front ++ rest) r
chunk_lift n S front rest (Ok x) are long h = record {
  encoding = front ++ h.encoding;
  is_encoding = record {
    front = front;
    back = h.encoding;
    parts = refl;
    long = long;
    bytes = are;
    then = h.is_encoding;
  };
  parts = ap (λ (s : List ℕ). front ++ s) h.parts ∙ sym (append_assoc front h.encoding x.1);
}
chunk_lift n S front rest (Err Undefined) are long h = λ encoding a m. let k =
    chunk_meets n S front rest encoding a long m in h k.0 a k.2
chunk_lift n S front rest (Err (Short k)) are long h = record {
  more = h.more;
  tail = h.tail;
  value = h.value;
  is_encoding = record {
    front = front;
    back = rest
        ++ h.tail;
    parts = append_assoc front rest h.tail;
    long = long;
    bytes = are;
    then =
        h.is_encoding;
  };
  long = h.long;
  least = λ encoding a m.
      let j = chunk_meets n S front rest encoding a long m in
      let e = h.least j.0 a j.2 in
      omega (arith, ap length j.1, length-append front rest, length-append front j.0);
}

chunk_by : {A : Type 0} (n : ℕ) (S : List ℕ → List ℕ → A → Type 0) (s : List ℕ × List ℕ
    → Result (A × List ℕ) Stop) (least : ℕ) → ((front : List ℕ) → AreBytes front → length front ≡ n
    → Sized (S front) least) → ((front rest : List ℕ) → AreBytes front → length front ≡ n
    → AreBytes rest → Exact (S front) rest (s (front, rest))) → (bytes :
    List ℕ) → AreBytes bytes → (b : Bool) → ltb (length bytes) n ≡ b → Exact (Chunk n S) bytes (cond
    b (Err (Short (n - length bytes + least))) (Ok (take n bytes, drop n bytes)) >>= s)
chunk_by n S s least tails each bytes h true e =
    chunk_short n S least tails bytes h (ltb-true (length bytes) n e)
chunk_by n S s least tails each bytes h false e =
    let le : n ≤ length bytes = ltb-false (length bytes) n e in
    let long : length (take n bytes) ≡ n = length-take-le n bytes le in
    let P : List ℕ → Type 0 =
    λ (t : List ℕ). Exact (Chunk n S) t (s (take n bytes, drop n bytes)) in
    let are : AreBytes (take n bytes) = bytes_take n bytes h in
    subst P (take-append-drop n bytes)
    (chunk_lift n S (take n bytes) (drop n bytes) (s (take n bytes, drop n bytes)) are long
    (each (take n bytes) (drop n bytes) are long (bytes_drop n bytes h)))

pub chunk_exact : {A : Type 0} (n : ℕ) (S : List ℕ → List ℕ → A → Type 0) (s : List ℕ × List ℕ
    → Result (A × List ℕ) Stop) (least : ℕ) → ((front : List ℕ) → AreBytes front → length front ≡ n
    → Sized (S front) least) → ((front rest : List ℕ) → AreBytes front → length front ≡ n
    → AreBytes rest → Exact (S front) rest (s (front, rest))) → (bytes :
    List ℕ) → AreBytes bytes → Exact (Chunk n S) bytes (chunk_at n least bytes >>= s)
chunk_exact n S s least tails each bytes h =
    chunk_by n S s least tails each bytes h (ltb (length bytes) n) refl

pub chunk_free : {A : Type 0} (n : ℕ) (S : List ℕ → List ℕ → A → Type 0)
    → ((front : List ℕ) → AreBytes front → length front ≡ n → IsFree (S front)) → IsFree (Chunk n S)
chunk_free {A} n S each = record {
  one = λ t u a b x y p q e.
      let f : p.front ++ (p.back ++ x) ≡ q.front ++ (q.back ++ y) =
      sym (append_assoc p.front p.back x) ∙ ap (λ (s : List ℕ). s ++ x) (sym p.parts) ∙ e
      ∙ ap (λ (s : List ℕ). s ++ y) q.parts ∙ append_assoc q.front q.back y in
      let k = same_front p.front q.front (p.back ++ x) (q.back ++ y) (p.long ∙ sym q.long) f in
      let P : List ℕ → Type 0 = λ s. S s q.back b in
      let j = (each p.front p.bytes p.long).one p.back q.back a b x y p.then
      (subst P (sym k.0) q.then) k.1 in (
        p.parts ∙ ap (λ (s : List ℕ). s ++ p.back) k.0 ∙ ap (λ (s : List ℕ). q.front ++ s) j.0
            ∙ sym q.parts,
        j.1,
      );
}

-- ---- a part under another description

pub meets_as : {A : Type 0} (R S : List ℕ → A → Type 0) → ((t : List ℕ) (a : A) → S t a → R t a)
    → (bytes encoding : List ℕ) (a : A) → Meets S bytes encoding a → Meets R bytes encoding a
meets_as R S back bytes encoding a m =
    record {
      is_encoding = back encoding a m.is_encoding;
      after = m.after;
      rest = m.rest;
      same = m.same;
    }

pub exact_as : {A : Type 0} (R S : List ℕ → A → Type 0) → ((t : List ℕ) (a : A) → R t a → S t a)
    → ((t : List ℕ) (a : A) → S t a → R t a) → (bytes : List ℕ) (r : Result (A × List ℕ) Stop)
    → Exact R bytes r → Exact S bytes r
exact_as R S to back bytes (Ok x) h =
    record { encoding = h.encoding; is_encoding = to h.encoding x.0 h.is_encoding; parts = h.parts }
exact_as R S to back bytes (Err Undefined) h =
    λ encoding a m. h encoding a (meets_as R S back bytes encoding a m)
exact_as R S to back bytes (Err (Short n)) h = record {
  more = h.more;
  tail = h.tail;
  value = h.value;
  is_encoding = to (bytes ++ h.tail) h.value h.is_encoding;
  long = h.long;
  least = λ encoding a m. h.least encoding a (meets_as R S back bytes encoding a m);
}

pub free_as : {A : Type 0} (R S : List ℕ → A → Type 0) → ((t : List ℕ) (a : A) → S t a → R t a)
    → IsFree R → IsFree S
free_as R S back free = record {
  one = λ t u a b x y p q e. free.one t u a b x y (back t a p)
      (back u b q) e;
}

-- ---- sizes

pub nothing_sized : {A : Type 0} (v : A) → Sized (Nothing v) 0
nothing_sized v = record {
  encoding = [];
  value = v;
  is_encoding = (refl, refl);
  long = refl;
  low = λ u a h. omega arith;
}

pub chunk_sized : {A : Type 0} (n : ℕ) (S : List ℕ → List ℕ → A → Type 0) (least : ℕ)
    → ((front : List ℕ) → AreBytes front → length front ≡ n → Sized (S front) least)
    → Sized (Chunk n S) (n + least)
chunk_sized n S least tails =
    let z = zeros n in
    let k = tails z.0 z.1 z.2 in
    record {
      encoding = z.0 ++ k.encoding;
      value = k.value;
      is_encoding = record {
        front = z.0;
        back = k.encoding;
        parts = refl;
        long = z.2;
        bytes = z.1;
        then = k.is_encoding;
      };
      long = omega (arith, length-append z.0 k.encoding, z.2, k.long);
      low = λ u a c. let low = (tails c.front c.bytes c.long).low c.back a c.then in
          omega (arith, ap length c.parts, length-append c.front c.back, c.long);
    }

-- reading three times is reading once and then twice
pub then_then : {A B C : Type 0} (r : Result A Stop) (f : A → Result B Stop) (g : B → Result C Stop)
    → ((r >>= f) >>= g) ≡ (r >>= λ x. f x >>= g)
then_then (Ok x) f g = refl
then_then (Err e) f g = refl

pub sized_is : {A : Type 0} (R : List ℕ → A → Type 0) (m n : ℕ) → m ≡ n → Sized R m → Sized R n
sized_is R m n e h = let P : ℕ → Type 0 = Sized R in subst P e h

pub sized_as : {A : Type 0} (R S : List ℕ → A → Type 0) (n : ℕ)
    → ((t : List ℕ) (a : A) → R t a → S t a) → ((t : List ℕ) (a : A) → S t a → R t a) → Sized R n
    → Sized S n
sized_as R S n to back h =
    record {
      encoding = h.encoding;
      value = h.value;
      is_encoding = to h.encoding h.value
          h.is_encoding;
      long = h.long;
      low = λ u a p. h.low u a (back u a p);
    }

pub ends_as : {A : Type 0} (R S : List ℕ → A → Type 0) (stop : Stop)
    → ((t : List ℕ) (a : A) → R t a → S t a) → ((t : List ℕ) (a : A) → S t a → R t a) → Ends R stop
    → Ends S stop
ends_as R S (Short n) to back h = (h.0, sized_as R S n to back h.1)
ends_as R S Undefined to back h = λ u a p. h u a (back u a p)

-- U is R or S
pub record IsUnion {A : Type 0} (U R S : List ℕ → A → Type 0) : Type 0 where
  pub left : (t : List ℕ) (a : A) → R t a → U t a
  pub right : (t : List ℕ) (a : A) → S t a → U t a
  pub either : (t : List ℕ) (a : A) → U t a → (R t a) ⊎ (S t a)

pub union_ends : {A : Type 0} (U R S : List ℕ → A → Type 0) (r s : Stop) → IsUnion U R S → Ends R r
    → Ends S s → Ends U (sooner_stop r s)
unfolding sooner_stop
union_ends U R S (Short x) (Short y) i h k = by_test (ltb x y) refl
  where
    low_of : (n : ℕ) → n ≤ x → n ≤ y → (t : List ℕ) (a : _) → U t a → n ≤ length t
    low_of n p q t a u = elim (i.either t a u) [
      | inl v ↦
          (let l : x ≤ length t = h.1.low t a v in omega arith)
      | inr v ↦
          (let l : y ≤ length t = k.1.low t a v in omega arith)
    ]

    by_test : (b : Bool) → ltb x y ≡ b → (0 < cond b x y) × Sized U (cond b x y)
    by_test true e = let lt : x < y = ltb-true x y e in (
      h.0,
      record {
        encoding = h.1.encoding;
        value = h.1.value;
        is_encoding = i.left h.1.encoding
            h.1.value h.1.is_encoding;
        long = h.1.long;
        low = low_of x (omega arith) (omega arith);
      },
    )
    by_test false e = let le : y ≤ x = ltb-false x y e in (
      k.0,
      record {
        encoding = k.1.encoding;
        value = k.1.value;
        is_encoding = i.right
            k.1.encoding k.1.value k.1.is_encoding;
        long = k.1.long;
        low = low_of y le (omega arith);
      },
    )
union_ends U R S Undefined (Short y) i h k = (
  k.0,
  record {
    encoding = k.1.encoding;
    value = k.1.value;
    is_encoding = i.right k.1.encoding
        k.1.value k.1.is_encoding;
    long = k.1.long;
    low =
        λ t a u. elim (i.either t a u) [ inl v ↦ absurd (h t a v) | inr v ↦ k.1.low t a v ];
  },
)
union_ends U R S Undefined Undefined i h k =
    λ t a u. elim (i.either t a u) [ inl v ↦ h t a v | inr v ↦ k t a v ]
union_ends U R S (Short x) Undefined i h k = (
  h.0,
  record {
    encoding = h.1.encoding;
    value = h.1.value;
    is_encoding = i.left h.1.encoding
        h.1.value h.1.is_encoding;
    long = h.1.long;
    low =
        λ t a u. elim (i.either t a u) [ inl v ↦ h.1.low t a v | inr v ↦ absurd (k t a v) ];
  },
)

-- ---- on a condition

pub when_to : {A : Type 0} (b : Bool) (R : List ℕ → A → Type 0) (t : List ℕ) (a : A) → When b R t a
    → (b ≡ true) × R t a
when_to true R t a h = (refl, h)
when_to false R t a h = absurd h

pub when_back : {A : Type 0} (b : Bool) (R : List ℕ → A → Type 0) (t : List ℕ) (a : A) → b ≡ true
    → R t a → When b R t a
when_back true R t a e h = h
when_back false R t a e h = absurd cc
