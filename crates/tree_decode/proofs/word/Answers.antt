-- `tree_decode::word` meets its contract. Assumes nothing.
use Rattle.tree_word.proofs.WordBits.{loaded, word-exact, word_counts}
use Rattle.tree_decode.proofs.word.Goals as goal

pub invariant_of-result : goal.invariant_of-result
invariant_of-result g c =
    record { code = word-exact (loaded _ c.requires.0.lies c.requires.1 c.load.ensures) c.requires.0.code }

pub returns-clause-counts : goal.returns-clause-counts
returns-clause-counts g c = word_counts (loaded _ c.requires.0.lies c.requires.1 c.load.ensures) c.requires.0.code
