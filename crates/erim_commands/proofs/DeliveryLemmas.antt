-- How a reply's delivery ends, and how a plan is carried out, from how the parts of a call ended.
use Rattle.std.proofs.Common.{◌≡◌, ◌∙◌, ℕ, ◌<◌, ◌≤◌, List, ◌⊎◌, ◌++◌, ◌∷◌, [], length, replicate}
use Rattle.std.proofs.Common.{Option, Some, None, Result, Ok, Err, refl, sym, ap, subst, arith, inl}
use Rattle.std.proofs.Common.{inr}
use Rattle.std.specs.Prelude.{codes, IsSomeAnd, IfOk, IfSome, ◌≢◌}
use Rattle.std.specs.Io.KnownBytes.{Keeps}
use Rattle.std.proofs.Math.ListN.{length-replicate}
use Rattle.erim_io.specs.Store.{Name, Files, Holds, HoldsLength}
use Rattle.erim_io.specs.declared.store.SaveFault.TheVariants.{Failed, Memory}
use Rattle.std.specs.Option.{option_map}
use Rattle.erim_defs.specs.declared.fault.ImageFault.{ImageFault}
use Rattle.erim_defs.specs.declared.fault.ImageFault.TheVariants.{Memory as NoRoom}
use Rattle.erim_defs.specs.declared.journal.JournalFault.{JournalFault}
use Rattle.erim_defs.specs.declared.journal.JournalFault.TheVariants.{Memory as NoJournalRoom}
use Rattle.erim_defs.specs.declared.memory.NoMemory.{NoMemory}
use Rattle.erim_defs.specs.Encoding.Parts.{AreBytes}
use Rattle.erim_defs.specs.declared.machine.Entry.{Entry}
use Rattle.erim_defs.specs.Machine.State.{Setup, State}
use Rattle.erim_defs.specs.Output.Journal.{journal_fault}
use Rattle.erim_defs.specs.Output.Texts.{error_line, fault_text, journal_fault_text}
use Rattle.erim_commands.specs.declared.reply.Reply.{Reply as CodeReply}
use Rattle.erim_commands.specs.declared.reply.Status.{Status}
use Rattle.erim_commands.specs.declared.reply.Status.TheVariants.{ImageRefused, JournalRefused}
use Rattle.erim_commands.specs.Statuses.{code_of}
use Rattle.erim_commands.specs.Replies.{Saved, Reply, Answer, One, Ran, Replayed, IsAnswer}
use Rattle.erim_commands.specs.Replies.{IsRunReply, IsReplayReply, line_reply, journal_refusal}
use Rattle.erim_commands.specs.Plans.{Plan, Ask, Tell, unless}
use Rattle.erim_commands.specs.Commands.{Format, refusal_answer, with_file}
use Rattle.erim_commands.specs.Delivery.{World, KeepsStore, IsUntouched, HasNotLoaded, HasNotKept}
use Rattle.erim_commands.specs.Delivery.{HoldsMore, Delivers, Carries}
use Rattle.erim_commands.specs.CallParts.{reply_of, Puts, SavesHeld, noted_file, Loads, EndsAs}
use Rattle.erim_commands.specs.CallParts.{IsReplyFor, Passes}

-- ---- a reply's delivery

-- its file was saved, or there was none
pub save_kept : (save : Option Saved) (old new : World) → SavesHeld save (Ok tt) old.held new.held
    → new.failed_loads ≡ old.failed_loads
    → new.failed_saves ≡ noted_file save (Ok tt) old.failed_saves → KeepsStore save old new
save_kept None old new held loads saves = record { held = held.1; loads = loads; saves = saves }
save_kept (Some file) old new held loads saves =
    record { held = held; loads = loads; saves = saves }

-- its text was put
pub delivers_put : (reply : Reply) (old new : World) (result : ℕ) → KeepsStore reply.save old new
    → Puts (code_of reply.status) reply.text old.written new.written old.faults new.faults result
    → Delivers reply old new result
delivers_put reply old new result store (inl whole) =
    inl (whole.0, record { text = whole.1; store = store; puts = whole.2 })
delivers_put reply old new result store (inr part) =
    inr (inl (part.0, inr (record { text = part.1; store = store; puts = part.2 })))

-- its save failed, and the line that says so was put
pub delivers_unsaved : (reply : Reply) (save : Option Saved) (old new : World) (result : ℕ)
    → reply.save ≡ save → SavesHeld save (Err Failed) old.held new.held
    → new.failed_loads ≡ old.failed_loads
    → new.failed_saves ≡ noted_file save (Err Failed) old.failed_saves
    → Puts 4 (error_line (codes "save failed")) old.written new.written old.faults new.faults result
    → Delivers reply old new result
delivers_unsaved reply None old new result is held loads saves put = absurd (let bad = held.0 in cc)
delivers_unsaved reply (Some file) old new result is held loads saves (inl whole) =
    let lost : HasNotKept (Some file) old new =
    record { loads = loads; saves = saves; held = held; line = inl (whole.1, whole.2) } in
    inr (inl (whole.0, inl (rw is lost)))
delivers_unsaved reply (Some file) old new result is held loads saves (inr part) =
    let lost : HasNotKept (Some file) old new =
    record { loads = loads; saves = saves; held = held; line = inr (part.1, part.2) } in
    inr (inl (part.0, inl (rw is lost)))

-- memory gave out at the save
pub save_untouched : (save : Option Saved) (old new : World)
    → SavesHeld save (Err Memory) old.held new.held → new.failed_loads ≡ old.failed_loads
    → new.failed_saves ≡ noted_file save (Err Memory) old.failed_saves
    → Keeps old.written new.written → new.faults ≡ old.faults → IsUntouched old new
save_untouched None old new held loads saves text puts = absurd (let bad = held.0 in cc)
save_untouched (Some file) old new held loads saves text puts =
    record {
      text = text;
      store = record { held = held; loads = loads; saves = saves };
      puts = puts;
    }

keeps : (known : Option (List ℕ)) → Keeps known known
keeps None = tt
keeps (Some bytes) = refl

pub untouched : (w : World) → IsUntouched w w
untouched w = record {
  text = keeps w.written;
  store = record { held = refl; loads = refl; saves = refl };
  puts = refl;
}

-- ---- loads

-- a put of the same text with the same status
pub puts_as : (s t : ℕ) (x y : List ℕ) (old new : World) (result : ℕ) → s ≡ t → x ≡ y
    → Puts s x old.written new.written old.faults new.faults result
    → Puts t y old.written new.written old.faults new.faults result
puts_as s t x y old new result p q puts = rw (← p, ← q) puts

-- a load that failed, whose line was put
pub unloaded : (name : Name) (old new : World) (result : ℕ)
    → new.failed_loads ≡ old.failed_loads ++ name ∷ [] → new.failed_saves ≡ old.failed_saves
    → new.held ≡ old.held
    → Puts 4 (error_line (codes "load failed")) old.written new.written old.faults new.faults result
    → (result ≡ 4) × HasNotLoaded name old new
unloaded name old new result loads saves held (inl whole) =
    (whole.0, record { loads = loads; saves = saves; held = held; line = inl (whole.1, whole.2) })
unloaded name old new result loads saves held (inr part) =
    (part.0, record { loads = loads; saves = saves; held = held; line = inr (part.1, part.2) })

-- a length above the limit
pub holds_more : (name : Name) (held : Option Files) (limit n : ℕ) → limit < n
    → HoldsLength held name n → HoldsMore name limit held
holds_more name None limit n lt long =
    (let zero : ℕ = 0 in (replicate n zero, tt, omega (arith, length-replicate n zero)))
holds_more name (Some files) limit n lt long = in_files (files name) long
  where
    in_files : (found : Option (List ℕ)) → IsSomeAnd found (λ bytes. length bytes ≡ n)
        → (bytes : List ℕ) × (found ≡ Some bytes) × (limit < length bytes)
    in_files None some = absurd some
    in_files (Some bytes) some = (bytes, refl, omega (arith, some))

-- ---- plans

-- memory ran out
pub carries_nothing : (plan : Plan Answer) (old new : World) (status : ℕ) → status ≡ 5
    → IsUntouched old new → Carries IsAnswer plan old new status
carries_nothing (Tell a) old new status five same = inr (five, same)
carries_nothing (Ask name limit too_large next) old new status five same =
    inr (inr (inr (five, same)))

-- a plan that loads nothing more was answered
pub carries_reply : (plan : Plan Answer) (reply : Reply) (old new : World) (status : ℕ)
    → EndsAs plan reply → Delivers reply old new status → Carries IsAnswer plan old new status
carries_reply (Tell a) reply old new status ends delivers = inl (reply, ends, delivers)
carries_reply (Ask name limit too_large next) reply old new status ends delivers = absurd ends

-- from a world that is the same
pub carries_from : (plan : Plan Answer) (mid old new : World) (status : ℕ) → mid ≡ old
    → Carries IsAnswer plan mid new status → Carries IsAnswer plan old new status
carries_from plan mid old new status same carries = let P : World
    → Type 0 = λ w. Carries IsAnswer plan w new status in subst P same carries

-- the words mean no command, which a line says
pub carries_line : (reply : Reply) (old new : World) (status : ℕ) → KeepsStore reply.save old new
    → Puts (code_of reply.status) reply.text old.written new.written old.faults new.faults status
    → Carries IsAnswer (Tell (One reply)) old new status
carries_line reply old new status store put =
    inl (reply, refl, delivers_put reply old new status store put)

-- ---- the step of a plan that loads and reads a file

abbrev pub too_large : {X : Type 0} → Format X → Reply
too_large format = line_reply format.status format.too_large

-- a load that ended the call
pub file_unloaded : {X : Type 0} (Z : Type 0) (format : Format X) (name : Name)
    (next : X → Plan Answer) (old new : World) (status : ℕ)
    → Loads {Z = Z} name format.limit (too_large format) old new (Err status)
    → Carries IsAnswer (with_file format name next) old new status
file_unloaded Z format name next old new status (inl long) =
    inr (inl (long.0, (too_large format, refl, long.1)))
file_unloaded Z format name next old new status (inr (inl lost)) = inr (inr (inl lost))
file_unloaded Z format name next old new status (inr (inr nothing)) = inr (inr (inr nothing))

-- it was loaded and has no fault
pub file_passes : {X : Type 0} (format : Format X) (name : Name) (bytes : List ℕ) (x : X)
    (old new : World) → new ≡ old
    → Holds old.held name (Some bytes) → length bytes ≤ format.limit → AreBytes bytes
    → format.fault bytes ≡ None → x ≡ format.value bytes
    → Passes (with_file format name) old new (Ok x)
file_passes {X} format name bytes x old new same holds within are fine is =
    let P : X → Type 0 = λ i. Passes (with_file format name) old new (Ok i) in
    subst P (sym is) (same, go)
  where
    go : (next : X → Plan Answer) (later : World) (status : ℕ)
        → Carries IsAnswer (next (format.value bytes)) old later status
        → Carries IsAnswer (with_file format name next) old later status
    go next later status rest =
        (let here : Carries IsAnswer
        (unless (format.fault bytes) (refusal_answer format.status) (next (format.value bytes))) old
        later status = rw fine rest in
        inl (bytes, holds, within, are, here))

-- one reply, or out of memory
pub reply_for_one : (reply : Reply) (r : Result CodeReply NoMemory)
    → IfOk r (λ m. reply_of m ≡ reply) → IsReplyFor (Tell (One reply)) r
reply_for_one reply (Ok m) is = is
reply_for_one reply (Err e) is = tt

-- a cause for which the plan ends, which a reply says
pub reply_for_refusal : (status : Status) (cause : Option (List ℕ)) (text : List ℕ)
    (next : Plan Answer)
    (r : Result CodeReply NoMemory) → cause ≡ Some text
    → IfOk r (λ m. reply_of m ≡ line_reply status text)
    → IsReplyFor (unless cause (refusal_answer status) next) r
reply_for_refusal status cause text next r bad replies =
    rw bad (reply_for_one (line_reply status text) r replies)

-- no cause
pub reply_for_passing : (status : Status) (cause : Option (List ℕ)) (next : Plan Answer)
    (r : Result CodeReply NoMemory) → cause ≡ None → IsReplyFor next r
    → IsReplyFor (unless cause (refusal_answer status) next) r
reply_for_passing status cause next r fine replies = rw fine replies

-- it was loaded and has a fault, which was said
pub file_faulty : {X : Type 0} (format : Format X) (name : Name) (bytes slice : List ℕ)
    (old mid new : World) (reply : Result CodeReply NoMemory) (status : ℕ) → mid ≡ old
    → Holds old.held name (Some bytes) → length bytes ≤ format.limit → AreBytes bytes
    → slice ≡ bytes
    → ((next : Plan Answer)
    → IsReplyFor (unless (format.fault slice) (refusal_answer format.status) next) reply)
    → ((plan : Plan Answer) → IsReplyFor plan reply → Carries IsAnswer plan mid new status)
    → (next : X → Plan Answer) → Carries IsAnswer (with_file format name next) old new status
file_faulty format name bytes slice old mid new reply status same holds within are is replies
    concluded next =
    let rest : List ℕ → Plan Answer =
    λ bs. unless (format.fault bs) (refusal_answer format.status) (next (format.value bytes)) in
    let said_so : Carries IsAnswer (rest slice) old new status =
    carries_from (rest slice) mid old new status same
    (concluded (rest slice) (replies (next (format.value bytes)))) in
    let P : List ℕ → Type 0 = λ bs. Carries IsAnswer (rest bs) old new status in
    inl (bytes, holds, within, are, subst P is said_so)

-- what followed a file that was read
pub file_next : {X : Type 0} (format : Format X) (name : Name) (next : X → Plan Answer) (x : X)
    (old mid new : World) (status : ℕ) → Passes (with_file format name) old mid (Ok x)
    → Carries IsAnswer (next x) mid new status
    → Carries IsAnswer (with_file format name next) old new status
file_next format name next x old mid new status passes carries =
    passes.1 next new status (carries_from (next x) mid old new status passes.0 carries)

-- ---- what reading an image says

abbrev fault_of : ImageFault → Result (List ℕ) ImageFault
fault_of fault = Err fault

-- the bytes have no fault
pub read_accepted : (bytes image : List ℕ) (first : Option ImageFault)
    → IfSome first (λ fault. Ok image ≡ Err fault) → (first ≡ None → image ≡ bytes)
    → (option_map fault_text first ≡ None) × (image ≡ bytes)
read_accepted bytes image None faulty accepted = (refl, accepted refl)
read_accepted bytes image (Some fault) faulty accepted = absurd cc

-- or they have this one, which a reply says
pub read_faulty : (fault : ImageFault) (first : Option ImageFault) (next : Plan Answer)
    (r : Result CodeReply NoMemory) → IfSome first (λ f. fault_of fault ≡ Err f)
    → (first ≡ None → fault ≡ NoRoom)
    → IfOk r (λ m. (fault ≢ NoRoom) × (reply_of m ≡ line_reply ImageRefused (fault_text fault)))
    → IsReplyFor (unless (option_map fault_text first) (refusal_answer ImageRefused) next) r
read_faulty fault first next (Err e) faulty accepted replies = tt
read_faulty fault None next (Ok m) faulty accepted replies = absurd (replies.0 (accepted refl))
read_faulty fault (Some f) next (Ok m) faulty accepted replies =
    let same : f ≡ fault = cc in
    replies.1 ∙ ap (λ x. line_reply ImageRefused (fault_text x)) (sym same)

-- ---- what reading a journal says

-- the bytes have no fault
pub journal_accepted : (bytes : List ℕ) → journal_fault bytes ≡ None
    → journal_refusal bytes ≡ None
journal_accepted bytes none = ap (option_map journal_fault_text) none

-- or they have this one, which a reply says
pub journal_faulty : (fault : JournalFault) (first : Option JournalFault) (next : Plan Answer)
    (r : Result CodeReply NoMemory) → (fault ≡ NoJournalRoom) ⊎ (first ≡ Some fault)
    → IfOk r (λ m. (fault ≢ NoJournalRoom)
    × (reply_of m ≡ line_reply JournalRefused (journal_fault_text fault)))
    → IsReplyFor
    (unless (option_map journal_fault_text first) (refusal_answer JournalRefused) next) r
journal_faulty fault first next (Err e) is replies = tt
journal_faulty fault first next (Ok m) (inl memory) replies = absurd (replies.0 memory)
journal_faulty fault first next (Ok m) (inr found) replies = rw found replies.1

-- ---- the replies of runs

-- a run's reply, for the setup
pub reply_for_run : (text_of : List Entry → State → List ℕ) (journal : Name) (workers : ℕ)
    (given setup : Setup) (r : Result CodeReply NoMemory) → given ≡ setup
    → IfOk r (λ m. IsRunReply text_of journal workers given (reply_of m))
    → IsReplyFor (Tell (Ran text_of journal workers setup)) r
reply_for_run text_of journal workers given setup (Ok m) same is =
    let P : Setup → Type 0 = λ s. IsRunReply text_of journal workers s (reply_of m) in
    subst P same is
reply_for_run text_of journal workers given setup (Err e) same is = tt

-- and that of a replay
pub reply_for_replay : (given setup : Setup) (entries : List Entry) (r : Result CodeReply NoMemory)
    → given ≡ setup → IfOk r (λ m. IsReplayReply given entries (reply_of m))
    → IsReplyFor (Tell (Replayed setup entries)) r
reply_for_replay given setup entries (Ok m) same is =
    let P : Setup → Type 0 = λ s. IsReplayReply s entries (reply_of m) in subst P same is
reply_for_replay given setup entries (Err e) same is = tt
