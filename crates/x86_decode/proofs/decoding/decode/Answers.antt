use Rattle.std.proofs.Common.{arith}
use Rattle.erim_defs.specs.Encoding.Decoding.{decode}
use Rattle.erim_defs.proofs.ByteLemmas.{bytes_of}
use Rattle.encoding_laws.proofs.EncodingLemmas.{decodes_again}
use Rattle.encoding_laws.proofs.DecodeLemmas.{decodes_one, decode_is_exact}
use Rattle.encoding_laws.proofs.LengthLemmas.{is_whole}
use Rattle.x86_decode.proofs.decoding.decode.Goals as goal

pub returns-clause-encodings : goal.returns-clause-encodings
returns-clause-encodings c =
    decodes_again c.args.bytes.now c.decode_window.result c.decode_window.ensures

pub returns-clause-function : goal.returns-clause-function
returns-clause-function c =
    decodes_one c.args.bytes.now c.decode_window.result (decode c.args.bytes.now)
    c.decode_window.ensures (decode_is_exact c.args.bytes.now
    (bytes_of c.args.bytes.now (λ i. omega (arith, c.type_inv.bytes i))))

pub returns-clause-whole : goal.returns-clause-whole
returns-clause-whole c = is_whole c.args.bytes.now c.decode_window.result c.decode_window.ensures
