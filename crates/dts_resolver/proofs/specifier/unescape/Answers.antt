use Rattle.std.proofs.Common.{◌≡◌, ℕ, ◌+◌, List, [], ◌∷◌, ◌++◌, length, get_or, take, drop, true, sym, refl, ap, ◌∙◌, append-nil, append_assoc, arith, rules}
use Rattle.std.proofs.lemmas.Bool.{ltb-false}
use Rattle.std.proofs.lemmas.List.{length-append, take-append-drop}
use Rattle.std.proofs.lemmas.Result.{err_from_is_err_and}
use Rattle.list.specs.Held.{held}
use Rattle.list.proofs.Held.{held_count, extended_none, extended_by, extended_twice}
use Rattle.dts_resolver.specs.Specifier.{unescaped}
use Rattle.dts_resolver.proofs.SpecifierParts.{unescaped_at, unescaped_past, unescaped_none}
use Rattle.dts_resolver.proofs.specifier.unescape.Goals as goal

pub loop-i-init : goal.loop-i-init
loop-i-init c = record {
  same_memory = refl;
  grew = extended_none c.new-text.result;
  read = ap (λ n. take n c.new-text.result.items.now ++ unescaped c.args.raw.now) c.new-text.ensures.holds_none;
}

pub loop-i-preserved-then-is_escape : goal.loop-i-preserved-then-is_escape
loop-i-preserved-then-is_escape c =
    let same = unescaped_at c.args.raw.now _ c.loop-i.i c.loop-i-test.true c.after.ensures.all_but_the_first (sym c.if-is_escape.ensures.zero_before_hash) in
    record {
      same_memory = c.loop-i.invariant.same_memory;
      grew = c.loop-i.invariant.grew;
      read = ap (λ xs. held c.loop-i.text ++ xs) (sym same) ∙ c.loop-i.invariant.read;
    }

pub loop-i-preserved : goal.loop-i-preserved
loop-i-preserved c =
    let one = unescaped_past c.args.raw.now _ c.loop-i.i c.loop-i-test.true c.after.ensures.all_but_the_first (sym c.if-is_escape.ensures.zero_before_hash) in
    let b = get_or c.args.raw.now c.loop-i.i 0 in
    let rest = unescaped (drop (c.loop-i.i + 1) c.args.raw.now) in
    let push = c.in_ok-push.ensures in
    record {
      same_memory = push.same_memory ∙ c.loop-i.invariant.same_memory;
      grew = extended_twice _ _ _ c.loop-i.invariant.grew (extended_by c.loop-i.text c.push.new.self true 1 push.counted push.others_as_before push.same_capacity);
      read = ap (λ xs. xs ++ rest) push.one_more ∙ append_assoc (held c.loop-i.text) (b ∷ []) rest ∙ ap (λ xs. held c.loop-i.text ++ xs) (sym one) ∙ c.loop-i.invariant.read;
    }

pub returns-in_err-push : goal.returns-in_err-push
returns-in_err-push c =
    let one = unescaped_past c.args.raw.now _ c.loop-i.i c.loop-i-test.true c.after.ensures.all_but_the_first (sym c.if-is_escape.ensures.zero_before_hash) in
    let all = ap length (ap (λ xs. held c.loop-i.text ++ xs) (sym one) ∙ c.loop-i.invariant.read) in
    let exit = err_from_is_err_and c.from_residual.result c.from_residual.ensures.1 in
    rw exit.1 (record {
      fits_or_not = omega (
        arith,
        ltb-false _ _ (sym c.in_err-push.ensures.fits),
        c.loop-i.invariant.grew.same_capacity,
        ap length c.new-text.ensures.memory_as_before,
        all,
        length-append (held c.loop-i.text) (get_or c.args.raw.now c.loop-i.i 0 ∷ unescaped (drop (c.loop-i.i + 1) c.args.raw.now)),
        held_count c.loop-i.text c.loop-i.text.within,
      );
      written_before_the_rest = tt;
    })

-- what the lent bytes hold at last is what the list has
at_last : (into items front : List ℕ) (n : ℕ) (before : List ℕ) → into ≡ items → take n items ≡ front → drop n items ≡ drop n before → into ≡ front ++ drop n before
at_last into items front n before same e f = same ∙ sym (take-append-drop n items) ∙ ap (λ xs. xs ++ drop n items) e ∙ ap (λ xs. front ++ xs) f

pub returns : goal.returns
returns c =
    let text = c.loop-i.text in
    let count = c.len.ensures.count in
    let all : held text ≡ unescaped c.args.raw.now = sym (append-nil (held text)) ∙ ap (λ xs. held text ++ xs) (sym (unescaped_none c.args.raw.now c.loop-i.i c.loop-i-test.false)) ∙ c.loop-i.invariant.read in
    let same = held_count text text.within in
    record {
      fits_or_not = (count ∙ sym same ∙ ap length all, omega (arith, count, text.within, c.loop-i.invariant.grew.same_capacity, ap length c.new-text.ensures.memory_as_before));
      written_before_the_rest =
          at_last _ text.items.now _ c.len.result _ (search rules) (ap (λ n. take n text.items.now) count ∙ all)
          (ap (λ n. drop n text.items.now) count ∙ c.loop-i.invariant.grew.behind ∙ ap (λ n. drop n c.new-text.result.items.now) (sym count) ∙ ap (drop c.len.result) c.new-text.ensures.memory_as_before);
    }
