-- The depth that is left falls with each bracket.
use Rattle.std.proofs.Common.{◌≡◌, ◌+◌, ◌-◌, ◌*◌, length}
use Rattle.json_text.specs.Reading.{Reads, Room, AnyValues, AnyMembers}
use Rattle.json_text.specs.declared.brackets.Bracket.TheVariants.{Square, Curly}
use Rattle.json_text.proofs.ListParts.{wanted}
use Rattle.json_text.proofs.token.Token.+values.Given as goal
use Rattle.json_text.proofs.Items.{Started}

abbrev pub decreases-value : goal.decreases-value
decreases-value l = 5 * l.depth + 1

abbrev pub decreases-array : goal.decreases-array
decreases-array l = 5 * l.depth

abbrev pub decreases-object : goal.decreases-object
decreases-object l = 5 * l.depth

abbrev pub decreases-elements : goal.decreases-elements
decreases-elements l = 5 * l.depth + 4

abbrev pub decreases-members : goal.decreases-members
decreases-members l = 5 * l.depth + 4

abbrev pub decreases-member : goal.decreases-member
decreases-member l = 5 * l.depth + 3

abbrev pub decreases-element : goal.decreases-element
decreases-element l = 5 * l.depth + 2

abbrev pub invariant-elements-loop-place : goal.invariant-elements-loop-place
invariant-elements-loop-place l =
    (l.next.start.text.now ≡ l.self.start.text.now)
    × Reads (Started (AnyValues l.depth)) (wanted Square) (wanted Square) (Room (l.depth + 1)) l.self.start.text.now l.self.start.at l.next.start.at

abbrev pub decreases-elements-loop-place : goal.decreases-elements-loop-place
decreases-elements-loop-place l = length l.self.start.text.now - l.next.start.at

abbrev pub invariant-members-loop-place : goal.invariant-members-loop-place
invariant-members-loop-place l =
    (l.next.start.text.now ≡ l.self.start.text.now)
    × Reads (Started (AnyMembers l.depth)) (wanted Curly) (wanted Curly) (Room (l.depth + 1)) l.self.start.text.now l.self.start.at l.next.start.at

abbrev pub decreases-members-loop-place : goal.decreases-members-loop-place
decreases-members-loop-place l = length l.self.start.text.now - l.next.start.at
