mod ProductLemmas
