-- The word holds the letters of the bytes passed.
use Rattle.std.proofs.Common.{◌≡◌, take, string_bytes}
use Rattle.words.specs.Words.{letters}
use Rattle.words.proofs.letters.Given as goal

abbrev pub invariant-loop-byte : goal.invariant-loop-byte
invariant-loop-byte l = string_bytes l.word ≡ letters (take l.byte-index l.bytes)
