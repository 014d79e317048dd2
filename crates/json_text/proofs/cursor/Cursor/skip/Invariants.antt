-- What has been passed is of the class.
use Rattle.std.proofs.Common.{◌≡◌, ◌-◌, ◌≤◌, true, length}
use Rattle.std.specs.List.{between}
use Rattle.json_text.specs.Json.{all}
use Rattle.json_text.proofs.cursor.Cursor.skip.Given as goal

abbrev pub invariant-loop-next : goal.invariant-loop-next
invariant-loop-next g l = (l.end.text.now ≡ l.self.text.now) × (l.self.at ≤ l.end.at) × (all g.C.Class.members (between l.self.at l.end.at l.self.text.now) ≡ true)

abbrev pub decreases-loop-next : goal.decreases-loop-next
decreases-loop-next g l = length l.self.text.now - l.end.at
