use Rattle.encoding_laws.proofs.DecodeLemmas.{decode_is_exact}
use Rattle.x86_decode.proofs.decoding.decode_is_exact.Goals as goal

pub returns : goal.returns
returns c = decode_is_exact
