use Rattle.encoding_laws.proofs.EncodingLemmas.{prefix_free}
use Rattle.x86_decode.proofs.decoding.prefix_free.Goals as goal

pub returns : goal.returns
returns c = prefix_free
