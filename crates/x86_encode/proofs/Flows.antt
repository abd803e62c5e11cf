-- The canonical encodings of jumps, the stack, exchanges and system instructions are encodings, and
-- so all are.
use Rattle.std.proofs.Common.{◌≡◌, ℕ, ◌+◌, ◌%◌, ◌<◌, ◌≤◌, Bool, true, false, List, [], ◌∷◌, ◌++◌}
use Rattle.std.proofs.Common.{Some, refl, sym, ap, subst, ◌∙◌, arith, inl, inr, ℤ, if◌then◌else◌}
use Rattle.std.specs.Prelude.{FitsSigned}
use Rattle.std.specs.Int.{w32}
use Rattle.erim_defs.specs.declared.grammar.Form.TheVariants.{Flow, Exchange, System}
use Rattle.erim_defs.specs.declared.grammar.Flow.TheVariants as flows
use Rattle.erim_defs.specs.declared.grammar.Exchange.TheVariants as exchanges
use Rattle.erim_defs.specs.declared.grammar.System.TheVariants as systems
use Rattle.erim_defs.specs.declared.insn.Insn.{Insn}
use Rattle.erim_defs.specs.declared.insn.Insn.TheVariants.{Alu, Test, Xchg, Mov, MovWide, Lea, Push}
use Rattle.erim_defs.specs.declared.insn.Insn.TheVariants.{Pop, MovSxd, MovZx, MovSx, Imul, Jcc}
use Rattle.erim_defs.specs.declared.insn.Insn.TheVariants.{Jmp, Call, JmpTo, CallTo, Ret, Leave}
use Rattle.erim_defs.specs.declared.insn.Insn.TheVariants.{Widen, Spread, Shift, Unary, Cmov, Set}
use Rattle.erim_defs.specs.declared.insn.Insn.TheVariants.{Bt, Cmpxchg, Xadd, Syscall, Wrpkru}
use Rattle.erim_defs.specs.declared.insn.Insn.TheVariants.{Rdpkru, Xrstor, Fence, Nop}
use Rattle.erim_defs.specs.declared.insn.Mem.{Mem}
use Rattle.erim_defs.specs.declared.insn.Place.{Place}
use Rattle.erim_defs.specs.declared.insn.Place.TheVariants.{Reg, High, At}
use Rattle.erim_defs.specs.declared.insn.Src.{Src}
use Rattle.erim_defs.specs.declared.insn.Src.TheVariants.{From, Imm}
use Rattle.erim_defs.specs.declared.insn.Width.{Width}
use Rattle.erim_defs.specs.declared.insn.Width.TheVariants.{W4}
use Rattle.erim_defs.specs.Encoding.Parts.{signed_value}
use Rattle.erim_defs.specs.Encoding.OpcodeTable.{plain_row, with_lock, with_size_prefix}
use Rattle.erim_defs.specs.Encoding.OpcodeTable.{without_rex_b}
use Rattle.erim_defs.specs.Encoding.Forms.{insn_of, flow_of, exchange_of, system_of, opcode_reg}
use Rattle.erim_defs.specs.Encoding.Forms.{memory_of}
use Rattle.erim_defs.specs.Encoding.Grammar.{fields_of}
use Rattle.erim_defs.specs.Encoding.Canonical.{one_byte, four_bytes, fits_byte, shortest_bytes}
use Rattle.erim_defs.specs.Encoding.Canonical.{is_wide, register_number, modrm_byte, operand_bytes}
use Rattle.erim_defs.specs.Encoding.Canonical.{opcode_with_register, opcode_alone, reg_rm_bytes}
use Rattle.erim_defs.specs.Encoding.Canonical.{word_rm_bytes, push_bytes, control_bytes}
use Rattle.erim_defs.specs.Encoding.Canonical.{canonical_encoding}
use Rattle.erim_defs.specs.Encoding.OpcodeMap.{one_byte_row, two_byte_row, middle_opcode_row}
use Rattle.erim_defs.specs.Encoding.OpcodeMap.{high_opcode_row, one_byte_has_modrm}
use Rattle.erim_defs.specs.Encoding.OpcodeMap.{two_byte_has_modrm}
use Rattle.encoding_laws.proofs.OpcodeMapLemmas.{row_in_map, modrm_in_map}
use Rattle.erim_defs.proofs.TableLemmas.{tabulated}
use Rattle.x86_encode.proofs.Numbers.{small_fits}
use Rattle.x86_encode.proofs.Encodings.{IsEncoding, PlainRow, alone_encodes, register_encodes, bare}
use Rattle.x86_encode.proofs.Views.{pair_encodes, word_encodes}
use Rattle.x86_encode.proofs.Founds.{ext_row, memory_row, exact_row, sized_any}
use Rattle.x86_encode.proofs.Good.{WordFits, ExchangeFits, IsGood}
use Rattle.x86_encode.proofs.Arithmetics.{Number, one_number, four_number, alu_encodes}
use Rattle.x86_encode.proofs.Arithmetics.{test_encodes, imul_encodes, shift_encodes, unary_encodes}
use Rattle.x86_encode.proofs.Arithmetics.{bt_encodes}
use Rattle.x86_encode.proofs.Moves.{in_opcode, opcode_is, condition_is, mov_encodes, wide_encodes}
use Rattle.x86_encode.proofs.Moves.{lea_encodes, sxd_encodes, zx_encodes, sx_encodes, widen_encodes}
use Rattle.x86_encode.proofs.Moves.{spread_encodes, cmov_encodes, set_encodes}

-- ---- the stack

push_register : (n : ℕ) → n < 16
    → IsEncoding (opcode_with_register false false 0x50 n) (Push (From (Reg n)))
unfolding insn_of flow_of opcode_reg fields_of one_byte_row middle_opcode_row one_byte_has_modrm
push_register n lt = bare (opcode_with_register false false 0x50 n) (Push (From (Reg n)))
    (register_encodes false false 0x50 n (plain_row (Flow flows.PushO) 0) [] (Push (From (Reg n)))
    (in_opcode false 0x50 n (plain_row (Flow flows.PushO) 0) (omega arith) refl refl refl) refl refl
    (omega arith) tt (ap (λ k. Push (From (Reg k))) (opcode_is 0x50 n refl lt)))

push_number : (op size : ℕ) (z : ℤ) (bytes : List ℕ) → size ≤ 4 → Number size bytes z
    → PlainRow false false op (plain_row (Flow flows.PushI) size)
    → IsEncoding (opcode_alone false false op ++ bytes) (Push (Imm z))
unfolding insn_of flow_of
push_number op size z bytes le b r =
    alone_encodes false false op (plain_row (Flow flows.PushI) size) bytes (Push (Imm z)) r b.long
    (omega arith) b.are (ap (λ k. Push (Imm k)) b.is)

push_encodes : (any : Bool) (src : Src) → IsGood any (Push src)
    → IsEncoding (push_bytes src) (Push src)
unfolding push_bytes shortest_bytes insn_of flow_of one_byte_row middle_opcode_row high_opcode_row
    one_byte_has_modrm
push_encodes any (From (Reg n)) h = push_register n h.fits
push_encodes any (From (High n)) h = absurd h.plain
push_encodes any (From (At m)) h =
    bare (word_rm_bytes W4 false 0xFF 6 (At m)) (Push (From (At m)))
    (word_encodes any W4 false 0xFF 6 (At m) (plain_row (Flow flows.PushM) 0) []
    (Push (From (At m))) tt (omega arith) h.fits tt
    (ext_row false (is_wide W4) 0xFF 6 (At m) (plain_row (Flow flows.PushM) 0) (omega arith)
    (λ _. refl) refl (λ wide. refl) (omega arith) refl) refl (omega arith) tt (λ f o wd e g k. cc))
push_encodes any (Imm z) h = by_small (fits_byte z) refl
  where
    by_small : (b : Bool) → fits_byte z ≡ b
        → IsEncoding (opcode_alone false false (if b then 0x6A else 0x68) ++ (if b then one_byte z
        else four_bytes z)) (Push (Imm z))
    by_small true e = push_number 0x6A 1 z (one_byte z) (omega arith)
        (one_number z (small_fits z e))
        (record { op_low = omega arith; apart = λ _. refl; asks = refl; found = refl })
    by_small false e = push_number 0x68 4 z (four_bytes z) (omega arith) (four_number z h)
        (record { op_low = omega arith; apart = λ _. refl; asks = refl; found = refl })

pop_encodes : (n : ℕ) → n < 16 → IsEncoding (opcode_with_register false false 0x58 n) (Pop n)
unfolding insn_of flow_of opcode_reg fields_of one_byte_row middle_opcode_row one_byte_has_modrm
pop_encodes n lt = bare (opcode_with_register false false 0x58 n) (Pop n)
    (register_encodes false false 0x58 n (plain_row (Flow flows.PopO) 0) [] (Pop n)
    (in_opcode false 0x58 n (plain_row (Flow flows.PopO) 0) (omega arith) refl refl refl) refl refl
    (omega arith) tt (ap Pop (opcode_is 0x58 n refl lt)))

-- ---- jumps and calls

jcc_row : (c : ℕ) → PlainRow true false (0x80 + c % 16) (plain_row (Flow flows.JccD) 4)
unfolding two_byte_row two_byte_has_modrm
jcc_row c =
    let small : c % 16 < 16 = omega arith in
    record {
      op_low = omega arith;
      apart = λ k. absurd cc;
      asks = tabulated (λ k. modrm_in_map true (0x80 + k)) (λ k. false) 16 refl (c % 16) small;
      found = tabulated (λ k. row_in_map true false false (0x80 + k) 0)
          (λ k. Some (plain_row (Flow flows.JccD) 4)) 16 refl (c % 16) small;
    }

jcc_encodes : (c : ℕ) (rel : ℤ) → c < 16 → FitsSigned w32 rel
    → IsEncoding (opcode_alone false true (0x80 + c % 16) ++ four_bytes rel) (Jcc c rel)
unfolding insn_of flow_of fields_of
jcc_encodes c rel lt f = let b = four_number rel f in
    alone_encodes false true (0x80 + c % 16) (plain_row (Flow flows.JccD) 4) (four_bytes rel)
    (Jcc c rel) (jcc_row c) b.long (omega arith) b.are
    (ap (λ k. Jcc k (signed_value (four_bytes rel))) (condition_is 0x80 c refl lt)
    ∙ ap (Jcc c) b.is)

jmp_encodes : (rel : ℤ) → FitsSigned w32 rel
    → IsEncoding (opcode_alone false false 0xE9 ++ four_bytes rel) (Jmp rel)
unfolding insn_of flow_of one_byte_row high_opcode_row one_byte_has_modrm
jmp_encodes rel f = let b = four_number rel f in
    alone_encodes false false 0xE9 (plain_row (Flow flows.JmpD) 4) (four_bytes rel) (Jmp rel)
    (record { op_low = omega arith; apart = λ _. refl; asks = refl; found = refl }) b.long
    (omega arith) b.are (ap Jmp b.is)

call_encodes : (rel : ℤ) → FitsSigned w32 rel
    → IsEncoding (opcode_alone false false 0xE8 ++ four_bytes rel) (Call rel)
unfolding insn_of flow_of one_byte_row high_opcode_row one_byte_has_modrm
call_encodes rel f = let b = four_number rel f in
    alone_encodes false false 0xE8 (plain_row (Flow flows.CallD) 4) (four_bytes rel) (Call rel)
    (record { op_low = omega arith; apart = λ _. refl; asks = refl; found = refl }) b.long
    (omega arith) b.are (ap Call b.is)

jmp_to_encodes : (to : Place) → WordFits to
    → IsEncoding (word_rm_bytes W4 false 0xFF 4 to) (JmpTo to)
unfolding insn_of flow_of one_byte_row high_opcode_row one_byte_has_modrm
jmp_to_encodes to h = bare (word_rm_bytes W4 false 0xFF 4 to) (JmpTo to)
    (word_encodes true W4 false 0xFF 4 to (plain_row (Flow flows.JmpM) 0) [] (JmpTo to) tt
    (omega arith) h.fits h.plain
    (ext_row false (is_wide W4) 0xFF 4 to (plain_row (Flow flows.JmpM) 0) (omega arith) (λ _. refl)
    refl (λ wide. refl) (omega arith) refl) refl (omega arith) tt (λ f o wd e g k. cc))

call_to_encodes : (to : Place) → WordFits to
    → IsEncoding (word_rm_bytes W4 false 0xFF 2 to) (CallTo to)
unfolding insn_of flow_of one_byte_row high_opcode_row one_byte_has_modrm
call_to_encodes to h = bare (word_rm_bytes W4 false 0xFF 2 to) (CallTo to)
    (word_encodes true W4 false 0xFF 2 to (plain_row (Flow flows.CallM) 0) [] (CallTo to) tt
    (omega arith) h.fits h.plain
    (ext_row false (is_wide W4) 0xFF 2 to (plain_row (Flow flows.CallM) 0) (omega arith) (λ _. refl)
    refl (λ wide. refl) (omega arith) refl) refl (omega arith) tt (λ f o wd e g k. cc))

ret_encodes : IsEncoding (opcode_alone false false 0xC3) Ret
unfolding insn_of flow_of one_byte_row high_opcode_row one_byte_has_modrm
ret_encodes = bare (opcode_alone false false 0xC3) Ret
    (alone_encodes false false 0xC3 (plain_row (Flow flows.RetZo) 0) [] Ret
    (record { op_low = omega arith; apart = λ _. refl; asks = refl; found = refl }) refl
    (omega arith) tt refl)

leave_encodes : IsEncoding (opcode_alone false false 0xC9) Leave
unfolding insn_of flow_of one_byte_row high_opcode_row one_byte_has_modrm
leave_encodes = bare (opcode_alone false false 0xC9) Leave
    (alone_encodes false false 0xC9 (plain_row (Flow flows.LeaveZo) 0) [] Leave
    (record { op_low = omega arith; apart = λ _. refl; asks = refl; found = refl }) refl
    (omega arith) tt refl)

-- ---- exchanges

xchg_encodes : (any lock : Bool) (w : Width) (a r : Place) → ExchangeFits any w a r lock
    → IsEncoding (reg_rm_bytes lock w false 0x86 r a) (Xchg w a r lock)
unfolding insn_of exchange_of one_byte_row middle_opcode_row one_byte_has_modrm
xchg_encodes any lock w a r h =
    pair_encodes any lock w false 0x86 r a (with_lock (plain_row (Exchange exchanges.XchgMr) 0))
    (Xchg w a r lock) h.wide h.register h.flat h.dst_fits refl
    (sized_any false 0x86 (register_number r) a
    (with_lock (plain_row (Exchange exchanges.XchgMr) 0)) (omega arith) (λ _. refl) (λ _. refl) refl
    refl (λ wide m. refl) (λ wide m. refl) refl w) (λ k. (refl, h.locked k)) refl (λ f o wd e g l.
    cc)

cmpxchg_encodes : (any lock : Bool) (w : Width) (a r : Place) → ExchangeFits any w a r lock
    → IsEncoding (reg_rm_bytes lock w true 0xB0 r a) (Cmpxchg w a r lock)
unfolding insn_of exchange_of two_byte_row two_byte_has_modrm
cmpxchg_encodes any lock w a r h =
    pair_encodes any lock w true 0xB0 r a (with_lock (plain_row (Exchange exchanges.CmpxchgMr) 0))
    (Cmpxchg w a r lock) h.wide h.register h.flat h.dst_fits refl
    (sized_any true 0xB0 (register_number r) a
    (with_lock (plain_row (Exchange exchanges.CmpxchgMr) 0)) (omega arith) (λ j. absurd cc)
    (λ j. absurd cc) refl refl (λ wide m. refl) (λ wide m. refl) refl w) (λ k.
    (refl, h.locked k)) refl (λ f o wd e g l. cc)

xadd_encodes : (any lock : Bool) (w : Width) (a r : Place) → ExchangeFits any w a r lock
    → IsEncoding (reg_rm_bytes lock w true 0xC0 r a) (Xadd w a r lock)
unfolding insn_of exchange_of two_byte_row two_byte_has_modrm
xadd_encodes any lock w a r h =
    pair_encodes any lock w true 0xC0 r a (with_lock (plain_row (Exchange exchanges.XaddMr) 0))
    (Xadd w a r lock) h.wide h.register h.flat h.dst_fits refl
    (sized_any true 0xC0 (register_number r) a (with_lock (plain_row (Exchange exchanges.XaddMr) 0))
    (omega arith) (λ j. absurd cc) (λ j. absurd cc) refl refl (λ wide m. refl) (λ wide m. refl) refl
    w) (λ k. (refl, h.locked k)) refl (λ f o wd e g l. cc)

-- ---- system instructions

syscall_encodes : IsEncoding (opcode_alone false true 0x05) Syscall
unfolding insn_of system_of two_byte_row two_byte_has_modrm
syscall_encodes = bare (opcode_alone false true 0x05) Syscall
    (alone_encodes false true 0x05 (plain_row (System systems.SyscallZo) 0) [] Syscall
    (record { op_low = omega arith; apart = λ j. absurd cc; asks = refl; found = refl }) refl
    (omega arith) tt refl)

nop_encodes : IsEncoding (opcode_alone false false 0x90) Nop
unfolding insn_of system_of one_byte_row one_byte_has_modrm
nop_encodes = bare (opcode_alone false false 0x90) Nop
    (alone_encodes false false 0x90
    (without_rex_b (with_size_prefix (plain_row (System systems.Nop) 0))) [] Nop
    (record { op_low = omega arith; apart = λ _. refl; asks = refl; found = refl }) refl
    (omega arith) tt refl)

wrpkru_encodes : IsEncoding (word_rm_bytes W4 true 0x01 5 (Reg 7)) Wrpkru
unfolding insn_of system_of two_byte_row two_byte_has_modrm operand_bytes modrm_byte is_wide
wrpkru_encodes = bare (word_rm_bytes W4 true 0x01 5 (Reg 7)) Wrpkru
    (word_encodes true W4 true 0x01 5 (Reg 7) (plain_row (System systems.WrpkruZo) 0) [] Wrpkru tt
    (omega arith) (omega arith) tt
    (exact_row true false 0x01 5 0xEF (Reg 7) (plain_row (System systems.WrpkruZo) 0) (omega arith)
    (λ j. absurd cc) refl refl refl refl) refl (omega arith) tt (λ f o wd e g k. refl))

rdpkru_encodes : IsEncoding (word_rm_bytes W4 true 0x01 5 (Reg 6)) Rdpkru
unfolding insn_of system_of two_byte_row two_byte_has_modrm operand_bytes modrm_byte is_wide
rdpkru_encodes = bare (word_rm_bytes W4 true 0x01 5 (Reg 6)) Rdpkru
    (word_encodes true W4 true 0x01 5 (Reg 6) (plain_row (System systems.RdpkruZo) 0) [] Rdpkru tt
    (omega arith) (omega arith) tt
    (exact_row true false 0x01 5 0xEE (Reg 6) (plain_row (System systems.RdpkruZo) 0) (omega arith)
    (λ j. absurd cc) refl refl refl refl) refl (omega arith) tt (λ f o wd e g k. refl))

xrstor_encodes : (any : Bool) (m : Mem) → IsGood any (Xrstor m)
    → IsEncoding (word_rm_bytes W4 true 0xAE 5 (At m)) (Xrstor m)
unfolding insn_of system_of memory_of two_byte_row two_byte_has_modrm
xrstor_encodes any m h =
    bare (word_rm_bytes W4 true 0xAE 5 (At m)) (Xrstor m)
    (word_encodes true W4 true 0xAE 5 (At m) (plain_row (System systems.XrstorM) 0) [] (Xrstor m) tt
    (omega arith) h tt (memory_row true (is_wide W4) 0xAE 5 (At m)
    (plain_row (System systems.XrstorM) 0) (omega arith) (λ j. absurd cc) refl (λ wide. refl) refl
    refl) refl (omega arith) tt (λ f o wd e g k. let q : memory_of f.place ≡ m = ap memory_of e in
    cc))

fence_with : (kind m : ℕ) → kind < 8 → operand_bytes kind (Reg 0) ≡ m ∷ []
    → row_in_map true false false 0xAE m ≡ Some (plain_row (System systems.FenceZo) 0)
    → IsEncoding (word_rm_bytes W4 true 0xAE kind (Reg 0)) (Fence kind)
unfolding insn_of system_of two_byte_has_modrm is_wide
fence_with kind m lt here found =
    bare (word_rm_bytes W4 true 0xAE kind (Reg 0)) (Fence kind)
    (word_encodes true W4 true 0xAE kind (Reg 0) (plain_row (System systems.FenceZo) 0) []
    (Fence kind) tt (omega arith) (omega arith) tt
    (exact_row true false 0xAE kind m (Reg 0) (plain_row (System systems.FenceZo) 0) (omega arith)
    (λ j. absurd cc) refl here found refl) refl (omega arith) tt (λ f o wd e g k. let q : kind % 8
    ≡ kind = omega arith in ap Fence (k ∙ q)))

fence_encodes : (any : Bool) (kind : ℕ) → IsGood any (Fence kind)
    → IsEncoding (word_rm_bytes W4 true 0xAE kind (Reg 0)) (Fence kind)
unfolding operand_bytes modrm_byte two_byte_row
fence_encodes any kind h = let P : ℕ
    → Type 0 = λ k. IsEncoding (word_rm_bytes W4 true 0xAE k (Reg 0)) (Fence k) in elim h [
      | inl e ↦ subst P (sym e) (fence_with 5 0xE8 (omega arith) refl refl)
      | inr k ↦ elim k [
        | inl e ↦ subst P (sym e) (fence_with 6 0xF0 (omega arith) refl refl)
        | inr e ↦
            subst P (sym e) (fence_with 7 0xF8 (omega arith) refl refl)
      ]
    ]

-- ---- all kinds

pub canonical_encodes : (any : Bool) (insn : Insn) → IsGood any insn
    → IsEncoding (canonical_encoding insn) insn
unfolding control_bytes canonical_encoding
canonical_encodes any (Alu op w dst src lock) h = alu_encodes any lock op w dst src h
canonical_encodes any (Test w a src) h = test_encodes any w a src h
canonical_encodes any (Xchg w a r lock) h = xchg_encodes any lock w a r h
canonical_encodes any (Mov w dst src) h = mov_encodes any w dst src h
canonical_encodes any (MovWide r imm) h = wide_encodes r imm h.0 h.1
canonical_encodes any (Lea w r m) h = lea_encodes any w r m h
canonical_encodes any (Push src) h = push_encodes any src h
canonical_encodes any (Pop r) h = pop_encodes r h
canonical_encodes any (MovSxd r src) h = sxd_encodes any r src h
canonical_encodes any (MovZx w r from src) h = zx_encodes any w r from src h
canonical_encodes any (MovSx w r from src) h = sx_encodes any w r from src h
canonical_encodes any (Imul w r a b) h = imul_encodes any w r a b h
canonical_encodes any (Jcc c rel) h = jcc_encodes c rel h.0 h.1
canonical_encodes any (Jmp rel) h = jmp_encodes rel h
canonical_encodes any (Call rel) h = call_encodes rel h
canonical_encodes any (JmpTo to) h = jmp_to_encodes to h
canonical_encodes any (CallTo to) h = call_to_encodes to h
canonical_encodes any Ret h = ret_encodes
canonical_encodes any Leave h = leave_encodes
canonical_encodes any (Widen w) h = widen_encodes any w h
canonical_encodes any (Spread w) h = spread_encodes any w h
canonical_encodes any (Shift op w dst by) h = shift_encodes any op w dst by h
canonical_encodes any (Unary op w dst lock) h = unary_encodes any lock op w dst h
canonical_encodes any (Cmov c w r src) h = cmov_encodes any c w r src h
canonical_encodes any (Set c dst) h = set_encodes any c dst h
canonical_encodes any (Bt w a k) h = bt_encodes any w a k h
canonical_encodes any (Cmpxchg w dst r lock) h = cmpxchg_encodes any lock w dst r h
canonical_encodes any (Xadd w dst r lock) h = xadd_encodes any lock w dst r h
canonical_encodes any Syscall h = syscall_encodes
canonical_encodes any Wrpkru h = wrpkru_encodes
canonical_encodes any Rdpkru h = rdpkru_encodes
canonical_encodes any (Xrstor m) h = xrstor_encodes any m h
canonical_encodes any (Fence kind) h = fence_encodes any kind h
canonical_encodes any Nop h = nop_encodes
