use Rattle.std.proofs.Common.{true, false, Some, [], ◌∷◌, ◌++◌, sym, refl, ap, ◌∙◌}
use Rattle.std.proofs.lemmas.Bool.{and_parts, ltb-true, leb-true}
use Rattle.search.specs.declared.trail.Reply.TheVariants.{Manifest}
use Rattle.search.specs.Search.{manifest_at, on_trail}
use Rattle.search.specs.Memory.{limits_of, presence_told, reply_of}
use Rattle.search.specs.Asking.{along, store_of}
use Rattle.search.proofs.TrailMemory.{is_on_trail, is_new, absent_is, presence_is, note_is}
use Rattle.search.proofs.searcher.Searcher.read_manifest.Goals as goal

pub returns-in-Some-Manifest-Absent-clause-noted_and_told : goal.returns-in-Some-Manifest-Absent-clause-noted_and_told
returns-in-Some-Manifest-Absent-clause-noted_and_told g c =
    let t = along c.args.self.now in
    let p = c.args.manifest.now in
    let q = manifest_at p in
    let tree = g.S.FileSystem.tree (store_of c.args.self.now) in
    λ s qs h.
    let found = is_on_trail (on_trail qs q) _ (reply_of tree q) (sym (c.in-Some-Manifest-Absent.is ∙ ap Some (c.in-Some-Manifest-Absent.field-0-is ∙ ap Manifest c.in-Some-Manifest-Absent.field-0-0-is)) ∙ c.known.ensures.told_by_the_trail tree qs h) in
    (qs, (h, note_is (limits_of t) qs q true _ found.0 refl, (absent_is (tree p) 0 _ c.args.into.now found.1).0))

pub returns-in-Some-clause-noted_and_told : goal.returns-in-Some-clause-noted_and_told
returns-in-Some-clause-noted_and_told g c =
    let t = along c.args.self.now in
    let q = manifest_at c.args.manifest.now in
    let tree = g.S.FileSystem.tree (store_of c.args.self.now) in
    λ s qs h.
    let found = is_on_trail (on_trail qs q) _ (reply_of tree q) (sym c.in-Some.is ∙ c.known.ensures.told_by_the_trail tree qs h) in
    (qs, (h, note_is (limits_of t) qs q true _ found.0 refl, c.read.ensures.follows_the_tree s))

pub returns-then-not-has_room-clause-noted_and_told : goal.returns-then-not-has_room-clause-noted_and_told
returns-then-not-has_room-clause-noted_and_told g c =
    let t = along c.args.self.now in
    let q = manifest_at c.args.manifest.now in
    let tree = g.S.FileSystem.tree (store_of c.args.self.now) in
    λ s qs h.
    let new = is_new (on_trail qs q) (reply_of tree q) (sym c.in-None.is ∙ c.known.ensures.told_by_the_trail tree qs h) in
    (h, note_is (limits_of t) qs q false false new (sym (c.if-not-has_room.ensures.entry_and_bytes tree qs h q refl)), refl)

pub note-requires : goal.note-requires
note-requires g c =
    let both = and_parts _ _ (sym c.if-not-has_room.ensures.fits) in
    (ltb-true _ _ both.0, leb-true _ _ both.1)

pub returns-clause-noted_and_told : goal.returns-clause-noted_and_told
returns-clause-noted_and_told g c =
    let t = along c.args.self.now in
    let p = c.args.manifest.now in
    let q = manifest_at p in
    let tree = g.S.FileSystem.tree (store_of c.args.self.now) in
    λ s qs h.
    let new = is_new (on_trail qs q) (reply_of tree q) (sym c.in-None.is ∙ c.known.ensures.told_by_the_trail tree qs h) in
    let fits = sym (c.if-not-has_room.ensures.entry_and_bytes tree qs h q refl) in
    let part = c.read-part.ensures.follows_the_tree s in
    let reply = sym (c.of.ensures.by_the_read ∙ ap presence_told part ∙ presence_is (tree p) 0 _) in
    (qs ++ q ∷ [], (c.note.ensures.one_more tree qs q h refl (ap Manifest reply), note_is (limits_of t) qs q false true new fits, part))
