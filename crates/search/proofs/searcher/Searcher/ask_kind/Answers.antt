use Rattle.std.proofs.Common.{true, false, [], ◌∷◌, ◌++◌, sym, refl, ap}
use Rattle.std.proofs.lemmas.Bool.{and_parts, ltb-true, leb-true}
use Rattle.file_system.specs.Tree.{kind_of}
use Rattle.search.specs.declared.trail.Reply.TheVariants.{Kind}
use Rattle.search.specs.Search.{kind_asked, on_trail}
use Rattle.search.specs.Memory.{limits_of}
use Rattle.search.specs.Asking.{along, store_of}
use Rattle.search.proofs.TrailMemory.{is_on_trail, is_new, note_is}
use Rattle.search.proofs.searcher.Searcher.ask_kind.Goals as goal

pub returns-in-Some-clause-noted_and_answered : goal.returns-in-Some-clause-noted_and_answered
returns-in-Some-clause-noted_and_answered g c =
    let t = along c.args.self.now in
    let q = kind_asked c.args.path.now in
    let tree = g.S.FileSystem.tree (store_of c.args.self.now) in
    λ s qs h.
    let found = is_on_trail (on_trail qs q) c.in-Some.kind (kind_of (tree c.args.path.now)) (c.in-Some.ensures.told_by_the_trail tree qs h) in
    (qs, (h, note_is (limits_of t) qs q true _ found.0 refl, found.1))

pub returns-then-not-has_room-clause-noted_and_answered : goal.returns-then-not-has_room-clause-noted_and_answered
returns-then-not-has_room-clause-noted_and_answered g c =
    let t = along c.args.self.now in
    let q = kind_asked c.args.path.now in
    let tree = g.S.FileSystem.tree (store_of c.args.self.now) in
    λ s qs h.
    let new = is_new (on_trail qs q) (kind_of (tree c.args.path.now)) (c.in_default.ensures.told_by_the_trail tree qs h) in
    (h, note_is (limits_of t) qs q false false new (sym (c.if-not-has_room.ensures.entry_and_bytes tree qs h q refl)), refl)

pub note-requires : goal.note-requires
note-requires g c =
    let both = and_parts _ _ (sym c.if-not-has_room.ensures.fits) in
    (ltb-true _ _ both.0, leb-true _ _ both.1)

pub returns-clause-noted_and_answered : goal.returns-clause-noted_and_answered
returns-clause-noted_and_answered g c =
    let t = along c.args.self.now in
    let q = kind_asked c.args.path.now in
    let tree = g.S.FileSystem.tree (store_of c.args.self.now) in
    λ s qs h.
    let new = is_new (on_trail qs q) (kind_of (tree c.args.path.now)) (c.in_default.ensures.told_by_the_trail tree qs h) in
    let fits = sym (c.if-not-has_room.ensures.entry_and_bytes tree qs h q refl) in
    let told = c.kind-kind.ensures.follows_the_tree s in
    (qs ++ q ∷ [], (c.note.ensures.one_more tree qs q h refl (ap Kind (sym told)), note_is (limits_of t) qs q false true new fits, told))
