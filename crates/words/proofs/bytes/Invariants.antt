-- The bytes found, and what the rest stands for, make what the whole text stands for.
use Rattle.std.proofs.Common.{◌≡◌, length, vec_items}
use Rattle.words.specs.Words.{bytes}
use Rattle.words.proofs.Words.{behind}
use Rattle.words.proofs.bytes.Given as goal

abbrev pub invariant-loop-found : goal.invariant-loop-found
invariant-loop-found l = bytes l.text ≡ behind (vec_items l.found) (bytes l.rest)

abbrev pub decreases-loop-found : goal.decreases-loop-found
decreases-loop-found l = length l.rest
