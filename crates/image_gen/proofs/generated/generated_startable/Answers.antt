use Rattle.image_gen.proofs.GeneratedLemmas.{generated_accepted, generated_length}
use Rattle.image_gen.proofs.GeneratedStart as Start
use Rattle.image_gen.proofs.generated.generated_startable.Goals as goal

pub returns : goal.returns
returns c = record {
  length = generated_length;
  accepted = generated_accepted;
  startable = Start.generated_startable;
}
