use Rattle.search.proofs.SearchReplies.{proved}
use Rattle.search.proofs.laws.same_replies_same_answer.Goals as goal

pub returns : goal.returns
returns c = record { same_replies_same_answer = proved }
