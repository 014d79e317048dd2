use Rattle.std.proofs.Common.{◌≡◌, [], ◌∷◌, sym, ap, ◌∙◌, rules}
use Rattle.std.specs.Str.{bytes_eq}
use Rattle.table.specs.Table.{node_at}
use Rattle.table.proofs.TableTree.{tree_root, tree_entry}
use Rattle.table.proofs.node.node_at.Goals as goal

pub returns-then-eq : goal.returns-then-eq
returns-then-eq c =
    let told : c.eq.result ≡ bytes_eq c.args.path.now (47 ∷ []) = search rules in
    record { follows_the_tree = λ _. sym (tree_root _ _ _ (sym told ∙ c.if-eq.true)) }

pub returns-in-None : goal.returns-in-None
returns-in-None c =
    let told : c.eq.result ≡ bytes_eq c.args.path.now (47 ∷ []) = search rules in
    let other = sym told ∙ c.if-eq.false in
    record { follows_the_tree = λ s. sym (tree_entry _ _ _ other ∙ ap (node_at _) (sym (c.find.ensures.first s) ∙ c.in-None.is)) }

pub returns-in-Some : goal.returns-in-Some
returns-in-Some c =
    let told : c.eq.result ≡ bytes_eq c.args.path.now (47 ∷ []) = search rules in
    let other = sym told ∙ c.if-eq.false in
    record { follows_the_tree = λ s. c.node_of.ensures.node ∙ sym (tree_entry _ _ _ other ∙ ap (node_at _) (sym (c.find.ensures.first s) ∙ c.in-Some.is)) }
