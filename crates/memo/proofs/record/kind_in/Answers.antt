use Rattle.std.proofs.Common.{◌≡◌, take, ap, ◌∙◌, rules, tests}
use Rattle.std.specs.Option.{option_map}
use Rattle.std.specs.Str.{bytes_eq}
use Rattle.std.proofs.lemmas.Iterator.{YieldsList-from_slice}
use Rattle.std.proofs.lemmas.Iterator.Search.{find_from_yields_List}
use Rattle.memo.proofs.MemoRecords.{recalled_found, kind_found}
use Rattle.memo.proofs.record.kind_in.Goals as goal

pub returns : goal.returns
returns c =
    let told : c.map.result ≡ option_map (λ r. r.now.kind) c.find.result = search rules in
    record {
      first =
          told ∙ kind_found c.find.result
          ∙ ap (option_map (λ r. r.kind)) (find_from_yields_List (λ r. bytes_eq (take r.length r.path) c.args.path.now) _ _ c.find.result c.find.ensures.ran (YieldsList-from_slice c.args.records.now cc) (λ x b q k. search (rules, tests)))
          ∙ recalled_found c.args.records.now c.args.path.now;
    }
