-- So much of the name was read.
use Rattle.std.proofs.Common.{◌≡◌, take, drop}
use Rattle.json_text.specs.Machine.{name_rest}
use Rattle.json_text.specs.Reading.{Reads, Any}
use Rattle.json_text.proofs.cursor.Cursor.name_rest.Given as goal

abbrev pub invariant-loop-byte : goal.invariant-loop-byte
invariant-loop-byte l =
    (l.end.text.now ≡ l.self.text.now)
    × Reads (λ a. a ≡ take l.byte-index l.rest) (name_rest l.rest) (name_rest (drop l.byte-index l.rest)) Any l.self.text.now l.self.at l.end.at
