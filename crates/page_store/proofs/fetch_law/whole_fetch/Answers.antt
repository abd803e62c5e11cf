-- The law is a lemma.
use Rattle.page_store.proofs.FetchLemmas as lemmas
use Rattle.page_store.proofs.fetch_law.whole_fetch.Goals as goal

pub returns : goal.returns
returns c = lemmas.fetch_of_whole
