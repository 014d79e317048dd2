use Rattle.std.proofs.Common.{◌≡◌, ℕ, true, List, ◌∷◌, ◌++◌, length, take, drop, Ok, refl, ap, sym, ◌∙◌, subst, ◌+◌, arith}
use denote.Ref.{Bor}
use Rattle.std.specs.Option.{option_map}
use Rattle.std.proofs.lemmas.List.{take-append-drop, length-append}
use Rattle.list.specs.Held.{held}
use Rattle.table.specs.declared.entry.Entry.{Entry}
use Rattle.file_system.specs.Store.{addition}
use Rattle.table.specs.Table.{tree_of, total, table_tree, table_space}
use Rattle.table.specs.Sound.{Sorted, Placed, AllApart, table_sound}
use Rattle.table.specs.Parts.{bytes_of, node_with, entry_for}
use Rattle.file_system.specs.Tree.{is_nothing, Changed}
use Rattle.file_system.proofs.StoreChecks.{accepted}
use Rattle.table.proofs.TableGrowth.{bytes_given, changed, still_placed, still_sorted, still_exact}
use Rattle.table.proofs.TableShrinking.{still_apart}
use Rattle.table.proofs.Table.add.Goals as goal

-- one element more
length_with : (n : ℕ) (es : List Entry) (e : Entry) → length (take n es ++ e ∷ drop n es) ≡ length es + 1
length_with n es e = omega (arith, length-append (take n es) (e ∷ drop n es), length-append (take n es) (drop n es), ap length (take-append-drop n es))

-- what holds of entries and bytes holds of what is equal to them
carried : (P : List Entry → List ℕ → Type 0) (es es' : List Entry) (bs bs' : List ℕ) → es' ≡ es → bs' ≡ bs → P es bs → P es' bs'
carried P es es' bs bs' a b h = subst (λ x. P x bs') (sym a) (subst (λ x. P es x) (sym b) h)

pub returns : goal.returns
returns c =
    let t = c.args.self.now in
    let p = c.args.path.now in
    let content = option_map (λ (x : Bor (List ℕ)). x.now) c.args.content in
    let es = held t.entries in
    let bs = held t.bytes in
    let e = entry_for bs p content in
    let size = ap length (bytes_given c.args.content _ c.unwrap_or.ensures refl) in
    let checked : table_sound t → Ok tt ≡ addition (table_tree t) (table_space t) p (length (bytes_of content)) = λ s. c.in_ok-check.ensures.first_that_fails s ∙ ap (addition (table_tree t) (table_space t) p) size in
    let passed = λ (s : table_sound t). accepted (table_tree t) (table_space t) p (length (bytes_of content)) (sym (checked s)) in
    let inserted = λ (s : table_sound t). c.insert.ensures.one_entry_more s (passed s).has_space in
    let parts = λ (s : table_sound t). take-append-drop (inserted s).at es in
    let sound : table_sound t → table_sound c.insert.new.self = λ s.
    let xs = take (inserted s).at es in
    let ys = drop (inserted s).at es in
    let split = sym (parts s) in
    let placed = subst (Placed bs) split s.placed in
    let empty = subst (λ (zs : List Entry). is_nothing (tree_of zs bs p) ≡ true) split (passed s).empty in
    record {
      entries = (inserted s).entries_within;
      room = (inserted s).bytes_within;
      placed = carried (λ zs ws. Placed ws zs) _ _ _ _ (inserted s).entries (inserted s).bytes (still_placed xs ys bs p content placed (passed s).can_store);
      sorted = carried (λ zs ws. Sorted ws zs) _ _ _ _ (inserted s).entries (inserted s).bytes (still_sorted xs ys bs p content placed (passed s).not_root empty (subst (Sorted bs) split s.sorted) (inserted s).those_before (inserted s).those_not_before);
      apart = subst AllApart (sym (inserted s).entries) (still_apart xs ys bs p content placed (subst AllApart split s.apart));
      exact = carried (λ zs ws. total zs ≡ length ws) _ _ _ _ (inserted s).entries (inserted s).bytes (still_exact xs ys bs p content (ap total (parts s) ∙ s.exact));
    }
    in
    record {
      refused_by_the_checks = checked;
      changes_that_path_alone = λ s.
          let xs = take (inserted s).at es in
          let ys = drop (inserted s).at es in
          let split = parts s in
          carried (λ zs ws. Changed (table_tree t) (tree_of zs ws) p (node_with content)) _ _ _ _ (inserted s).entries (inserted s).bytes
          (subst (λ (zs : List Entry). Changed (tree_of zs bs) (tree_of (xs ++ e ∷ ys) (bs ++ (p ++ bytes_of content))) p (node_with content)) split
          (changed xs ys bs p content (subst (Placed bs) (sym split) s.placed) (passed s).not_root (subst (λ (zs : List Entry). is_nothing (tree_of zs bs p) ≡ true) (sym split) (passed s).empty)));
      takes_exactly_its_space = λ s. record {
        one_entry = ap length (inserted s).entries ∙ length_with (inserted s).at es e;
        its_bytes = (sound s).exact ∙ ap length (inserted s).bytes ∙ omega (arith, s.exact, length-append bs (p ++ bytes_of content), length-append p (bytes_of content));
      };
      keeps_the_slices = c.insert.ensures.keeps_the_slices;
      stays_sound = sound;
    }
