use Rattle.std.proofs.Common.{◌≡◌, ◌∷◌, ◌++◌, [], List, All, rules, subst, sym}
use Rattle.std.proofs.lemmas.List.Elements.{All-push}
use Rattle.script.specs.Meaning.{Means}
use Rattle.script.specs.declared.listing.Line.{Line}
use Rattle.script.proofs.listing.read.Goals as goal

pub loop-index-preserved : goal.loop-index-preserved
loop-index-preserved c =
    let P : Line → Type 0 = λ line. Means line.text.now line.command in
    let line : Line = record { text = c.in-Some.line; command = c.in-Ok.command } in
    let means : P line = search rules in
    let more : c.push.new.self.items ≡ c.loop-index.lines.items ++ line ∷ [] = search rules in
    subst (λ (xs : List Line). All P xs) (sym more) (All-push P c.loop-index.lines.items line c.loop-index.invariant means)
