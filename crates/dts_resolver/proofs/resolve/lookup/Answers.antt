use Rattle.std.proofs.Common.{◌≡◌, [], length, Err, Ok, sym, refl, ap, ◌∙◌, subst, arith, rules}
use Rattle.std.specs.Option.{option_map}
use Rattle.search.specs.Search.{Trail, refused, result}
use Rattle.search.specs.Memory.{in_lists, Holds}
use Rattle.search.specs.Asking.{along}
use Rattle.search.specs.Course.{outcome_of}
use Rattle.search.proofs.TrailMemory.{steps_count, holds_nothing, laid_out_nothing}
use Rattle.dts_resolver.specs.Specifier.{unescaped}
use Rattle.dts_resolver.specs.Steps.{looked_up}
use Rattle.dts_resolver.specs.Answer.{given_by, path_told, type_told, is_refused, outcome_in, type_at, Looked}
use Rattle.dts_resolver.proofs.CheckOrder.{path_is_enough, work_is_enough, specifier_is_short}
use Rattle.dts_resolver.proofs.SpecifierParts.{length_raw_path}
use Rattle.dts_resolver.proofs.LookupLaws.{needed, same_lookup, harmless_lookup}
use Rattle.dts_resolver.proofs.LookupAnswer.{through, looked_refused, looked_as, steps_after, bytes_after, found_any, type_found, outcome_found, as_its_trials, rest_is, refused_by_part, checks_refused, checks_passed, by_check, by_part_check, part_parsed, limits_lent, memory_after}
use Rattle.dts_resolver.proofs.resolve.lookup.Goals as goal

pub returns-in-Err : goal.returns-in-Err
returns-in-Err g c =
    let tree = g.S.FileSystem.tree c.args.store.now in
    let given = given_by c.args.import.now c.args.lent.now in
    let e = c.in-Err.refusal in
    let refuses = checks_refused given e c.in-Err.ensures.first_that_fails in
    let came = looked_refused tree given e refuses in
    record {
      by_these_sizes = (refl, (refl, refl));
      refused_by_a_check = by_check _ given e refuses (record { told = refl; path = refl; steps = refl; bytes = refl });
      rest_as_before = record { path = refl; steps = refl; bytes = refl };
      parts_of_the_specifier = tt;
      unasked_without_a_step = λ e. refl;
      tells_the_answer = λ s. record { refusal = ap (λ x. x.outcome) came; count = sym (ap (λ x. length x.trail) came) };
      fills_the_memory = λ s. memory_after tree (looked_up tree given) (refused e) [] _ _ came refl refl refl;
      same_memory = record { path = refl; work = refl; steps = refl; bytes = refl; path_length = refl; work_length = refl; steps_length = refl; bytes_length = refl };
      ends_as_its_trials = λ s. as_its_trials tree given (refused e) (refused e) [] came refl;
      asks_what_it_needs = needed tree given;
      same_replies_same_answer = same_lookup tree given;
      added_files_are_harmless = harmless_lookup tree given;
      same_tree = λ s. refl;
      same_space = λ s. refl;
      stays_sound = λ s. s;
    }

pub look-found-requires : goal.look-found-requires
look-found-requires g c =
    let checked = c.in-Ok.ensures.first_that_fails in
    let path = length c.args.lent.now.path.now in
    let work = length c.args.lent.now.work.now in
    let containing = c.args.import.now.containing.now in
    let specifier = c.args.import.now.specifier.now in (
      path_is_enough path work containing specifier checked,
      (
        work_is_enough path work containing specifier checked,
        omega (arith, specifier_is_short path work containing specifier checked, length_raw_path specifier, ap length c.parse-parsed.ensures.path_before_query),
      ),
    )

pub returns-in-Err-found : goal.returns-in-Err-found
returns-in-Err-found g c =
    let tree = g.S.FileSystem.tree c.args.store.now in
    let given = given_by c.args.import.now c.args.lent.now in
    let checked = checks_passed given c.in-Ok.ensures.first_that_fails in
    let raw = c.parse-parsed.result.path.now in
    let directory = c.in-Ok.directory.now in
    let part = part_parsed c.args.import.now.specifier.now raw c.parse-parsed.ensures.path_before_query in
    let over = c.new.ensures.of_the_store in
    let start = in_lists c.new-steps.result c.new-bytes.result in
    let trail = along c.look-found.new.searcher in
    let no_steps = c.new-steps.ensures.holds_none in
    let no_bytes = c.new-bytes.ensures.holds_none in
    let limits = limits_lent start c.args.lent.now.steps.now c.args.lent.now.bytes.now c.new-steps.ensures.memory_as_before c.new-bytes.ensures.memory_as_before in
    let empty = holds_nothing tree start no_steps no_bytes in
    let found = c.in-Err-found.ensures in
    let asked = found.only_asked.questioned in
    let laid = asked.laid_out (laid_out_nothing start no_steps no_bytes) in
    let outcome = refused c.in-Err-found.refusal in
    let count : c.len-count.result ≡ trail.steps.len = c.len-count.ensures.count ∙ search rules in
    let Found : Type 0 = (qs : Trail) × (Holds tree trail qs × (looked_up tree given ≡ result outcome qs)) in
    let came : g.S.FileSystem.sound c.args.store.now → Found = λ s.
    looked_as tree given start trail directory (unescaped raw) outcome checked c.in-Ok.ensures.containing_directory part limits empty
    (subst (λ x. Looked (g.S.FileSystem.tree x) start trail c.args.import.now.mask directory (unescaped raw) outcome) over.as_before (found.searched (subst g.S.FileSystem.sound (sym over.as_before) s))) in
    let store : c.store-1.given.0 ≡ c.look-found.new.searcher.source.store.now = search rules in
    let sound : g.S.FileSystem.sound c.args.store.now → g.S.FileSystem.sound c.new.result.store.now = subst g.S.FileSystem.sound (sym over.as_before) in
    record {
      by_these_sizes = (refl, (refl, refl));
      refused_by_a_check = by_part_check _ _ given (unescaped raw) checked part found.refused_by_a_check (λ e told. refused_by_part start trail c.args.lent.now _ c.new-steps.ensures.memory_as_before c.new-bytes.ensures.memory_as_before _ count e (ap (λ r. Err record { refusal = r; count = c.len-count.result }) (let same : c.in-Err-found.refusal ≡ e = cc in same)) no_steps told.1 found.fills_the_buffer (search rules) (search rules));
      rest_as_before = rest_is start trail c.args.lent.now _ c.new-steps.ensures.memory_as_before c.new-bytes.ensures.memory_as_before _ count (Err c.in-Err-found.refusal) asked.grew laid found.fills_the_buffer found.told_length refl (search rules) (search rules);
      parts_of_the_specifier = tt;
      unasked_without_a_step = λ e. store ∙ asked.unasked (sym count ∙ e) ∙ over.as_before;
      tells_the_answer = λ s. record { refusal = ap (λ x. x.outcome) (came s).1.1; count = count ∙ steps_count tree trail (came s).0 (came s).1.0 ∙ sym (ap (λ x. length x.trail) (came s).1.1) };
      fills_the_memory = λ s. memory_after tree (looked_up tree given) outcome (came s).0 _ _ (came s).1.1 found.fills_the_buffer
          (through trail.steps.items.now (search rules) (steps_after tree start trail (came s).0 (came s).1.0 asked.grew c.args.lent.now.steps.now c.new-steps.ensures.memory_as_before))
          (through trail.bytes.items.now (search rules) (bytes_after tree start trail (came s).0 (came s).1.0 asked.grew c.args.lent.now.bytes.now c.new-bytes.ensures.memory_as_before));
      same_memory = record { path = refl; work = refl; steps = refl; bytes = refl; path_length = search rules; work_length = search rules; steps_length = through (length trail.steps.items.now) (search rules) (asked.grew.steps.same_capacity ∙ ap length c.new-steps.ensures.memory_as_before); bytes_length = through (length trail.bytes.items.now) (search rules) (asked.grew.bytes.same_capacity ∙ ap length c.new-bytes.ensures.memory_as_before) };
      ends_as_its_trials = λ s. as_its_trials tree given outcome outcome (came s).0 (came s).1.1 refl;
      asks_what_it_needs = needed tree given;
      same_replies_same_answer = same_lookup tree given;
      added_files_are_harmless = harmless_lookup tree given;
      same_tree = λ s. ap g.S.FileSystem.tree store ∙ asked.same_tree (sound s) ∙ ap g.S.FileSystem.tree over.as_before;
      same_space = λ s. ap g.S.FileSystem.space store ∙ asked.same_space (sound s) ∙ ap g.S.FileSystem.space over.as_before;
      stays_sound = λ s. subst g.S.FileSystem.sound (sym store) (asked.stays_sound (sound s));
    }

pub returns-in-Ok-found : goal.returns-in-Ok-found
returns-in-Ok-found g c =
    let tree = g.S.FileSystem.tree c.args.store.now in
    let given = given_by c.args.import.now c.args.lent.now in
    let checked = checks_passed given c.in-Ok.ensures.first_that_fails in
    let raw = c.parse-parsed.result.path.now in
    let directory = c.in-Ok.directory.now in
    let part = part_parsed c.args.import.now.specifier.now raw c.parse-parsed.ensures.path_before_query in
    let over = c.new.ensures.of_the_store in
    let start = in_lists c.new-steps.result c.new-bytes.result in
    let trail = along c.look-found.new.searcher in
    let no_steps = c.new-steps.ensures.holds_none in
    let no_bytes = c.new-bytes.ensures.holds_none in
    let limits = limits_lent start c.args.lent.now.steps.now c.args.lent.now.bytes.now c.new-steps.ensures.memory_as_before c.new-bytes.ensures.memory_as_before in
    let empty = holds_nothing tree start no_steps no_bytes in
    let found = c.in-Ok-found.ensures in
    let asked = found.only_asked.questioned in
    let laid = asked.laid_out (laid_out_nothing start no_steps no_bytes) in
    let outcome = outcome_of (Ok c.in-Ok-found.end) c.look-found.new.path in
    let count : c.len-count.result ≡ trail.steps.len = c.len-count.ensures.count ∙ search rules in
    let Found : Type 0 = (qs : Trail) × (Holds tree trail qs × (looked_up tree given ≡ result outcome qs)) in
    let came : g.S.FileSystem.sound c.args.store.now → Found = λ s.
    looked_as tree given start trail directory (unescaped raw) outcome checked c.in-Ok.ensures.containing_directory part limits empty
    (subst (λ x. Looked (g.S.FileSystem.tree x) start trail c.args.import.now.mask directory (unescaped raw) outcome) over.as_before (found.searched (subst g.S.FileSystem.sound (sym over.as_before) s))) in
    let store : c.store-1.given.0 ≡ c.look-found.new.searcher.source.store.now = search rules in
    let counted = c.answer.ensures.same_count ∙ count in
    let sound : g.S.FileSystem.sound c.args.store.now → g.S.FileSystem.sound c.new.result.store.now = subst g.S.FileSystem.sound (sym over.as_before) in
    record {
      by_these_sizes = (refl, (refl, refl));
      refused_by_a_check = by_part_check _ _ given (unescaped raw) checked part found.refused_by_a_check (λ e told. absurd (cc));
      rest_as_before = rest_is start trail c.args.lent.now _ c.new-steps.ensures.memory_as_before c.new-bytes.ensures.memory_as_before _ counted (Ok c.in-Ok-found.end) asked.grew laid found.fills_the_buffer found.told_length c.answer.ensures.same_length (search rules) (search rules);
      parts_of_the_specifier = record { query = ap (option_map (λ x. x.now)) c.answer.ensures.same_query ∙ c.parse-parsed.ensures.query_before_fragment; fragment = ap (option_map (λ x. x.now)) c.answer.ensures.same_fragment ∙ c.parse-parsed.ensures.fragment_last; module_type = c.answer.ensures.type_of_the_choice ∙ ap (λ n. type_at n c.look-found.new.path) (sym c.answer.ensures.same_length) };
      unasked_without_a_step = λ e. store ∙ asked.unasked (sym counted ∙ e) ∙ over.as_before;
      tells_the_answer = λ s. record {
        not_refused = ap (λ x. is_refused x.outcome) (came s).1.1 ∙ found_any c.in-Ok-found.end c.look-found.new.path;
        path = c.answer.ensures.same_length ∙ found.told_length ∙ sym (ap (λ x. path_told x.outcome) (came s).1.1);
        module_type = c.answer.ensures.type_of_the_choice ∙ type_found c.in-Ok-found.end c.look-found.new.path ∙ sym (ap (λ x. type_told x.outcome) (came s).1.1);
        count = counted ∙ steps_count tree trail (came s).0 (came s).1.0 ∙ sym (ap (λ x. length x.trail) (came s).1.1);
      };
      fills_the_memory = λ s. memory_after tree (looked_up tree given) outcome (came s).0 _ _ (came s).1.1 found.fills_the_buffer
          (through trail.steps.items.now (search rules) (steps_after tree start trail (came s).0 (came s).1.0 asked.grew c.args.lent.now.steps.now c.new-steps.ensures.memory_as_before))
          (through trail.bytes.items.now (search rules) (bytes_after tree start trail (came s).0 (came s).1.0 asked.grew c.args.lent.now.bytes.now c.new-bytes.ensures.memory_as_before));
      same_memory = record { path = refl; work = refl; steps = refl; bytes = refl; path_length = search rules; work_length = search rules; steps_length = through (length trail.steps.items.now) (search rules) (asked.grew.steps.same_capacity ∙ ap length c.new-steps.ensures.memory_as_before); bytes_length = through (length trail.bytes.items.now) (search rules) (asked.grew.bytes.same_capacity ∙ ap length c.new-bytes.ensures.memory_as_before) };
      ends_as_its_trials = λ s. as_its_trials tree given outcome (outcome_in c.answer.result.path c.look-found.new.path) (came s).0 (came s).1.1 (outcome_found c.in-Ok-found.end c.look-found.new.path ∙ ap (λ n. outcome_in n c.look-found.new.path) (sym c.answer.ensures.same_length));
      asks_what_it_needs = needed tree given;
      same_replies_same_answer = same_lookup tree given;
      added_files_are_harmless = harmless_lookup tree given;
      same_tree = λ s. ap g.S.FileSystem.tree store ∙ asked.same_tree (sound s) ∙ ap g.S.FileSystem.tree over.as_before;
      same_space = λ s. ap g.S.FileSystem.space store ∙ asked.same_space (sound s) ∙ ap g.S.FileSystem.space over.as_before;
      stays_sound = λ s. subst g.S.FileSystem.sound (sym store) (asked.stays_sound (sound s));
    }
