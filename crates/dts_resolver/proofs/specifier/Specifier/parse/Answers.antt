use Rattle.std.proofs.Common.{ap, ◌∙◌}
use Rattle.dts_resolver.specs.Specifier.{present}
use Rattle.dts_resolver.proofs.SpecifierParts.{path_is, query_is, fragment_is}
use Rattle.dts_resolver.proofs.specifier.Specifier.parse.Goals as goal

pub returns : goal.returns
returns c =
    let text = c.args.specifier.now in
    let rest = c.front-rest.result.now in
    let end = c.fragment_start-end.result in
    let start = c.query_start-start.result in
    let ends = c.fragment_start-end.ensures.after_the_rest in
    let is = c.front-rest.ensures.first_elements in
    let starts = c.query_start-start.ensures.after_the_path in
    record {
      path_before_query = c.front.ensures.first_elements ∙ path_is text rest end start ends is starts;
      query_before_fragment = c.part.ensures.unless_empty ∙ ap present c.after.ensures.all_but_the_first ∙ query_is text rest end start ends is starts;
      fragment_last = c.part-2.ensures.unless_empty ∙ ap present c.after-2.ensures.all_but_the_first ∙ fragment_is text rest end start ends is starts;
    }
