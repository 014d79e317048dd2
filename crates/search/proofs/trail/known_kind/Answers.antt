use Rattle.std.proofs.Common.{◌∙◌}
use Rattle.file_system.specs.Tree.{kind_of}
use Rattle.search.specs.Search.{kind_asked, on_trail}
use Rattle.search.proofs.TrailMemory.{kind_told, no_kind_told}
use Rattle.search.proofs.trail.known_kind.Goals as goal

pub returns-in-Some-clause-told_by_the_trail : goal.returns-in-Some-clause-told_by_the_trail
returns-in-Some-clause-told_by_the_trail c = λ t qs h.
    c.kind.ensures.if_it_is_one ∙ kind_told (on_trail qs (kind_asked c.args.path.now)) _ _ (kind_of (t c.args.path.now)) (c.known.ensures.told_by_the_trail t qs h) c.in-Some.is

pub returns-in-None-clause-told_by_the_trail : goal.returns-in-None-clause-told_by_the_trail
returns-in-None-clause-told_by_the_trail c = λ t qs h.
    no_kind_told (on_trail qs (kind_asked c.args.path.now)) _ (kind_of (t c.args.path.now)) (c.known.ensures.told_by_the_trail t qs h) c.in-None.is
