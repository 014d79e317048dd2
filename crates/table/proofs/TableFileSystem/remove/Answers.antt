use Rattle.std.proofs.Common.{◌≡◌, ℕ, ◌++◌, ◌+◌, List, length, map, take, drop, sym, ap, ◌∙◌, subst, arith}
use Rattle.list.specs.Held.{held}
use Rattle.table.specs.declared.entry.Entry.{Entry}
use Rattle.file_system.specs.Tree.{nothing, Changed}
use Rattle.table.specs.Table.{tree_of, total, size_of, sought, table_tree}
use Rattle.table.specs.Sound.{Sorted, Placed, AllApart}
use Rattle.table.specs.Space.{content_size}
use Rattle.table.specs.Parts.{moved, closed}
use Rattle.file_system.proofs.StoreChecks.{placed_not_root}
use Rattle.table.proofs.TableTree.{tree_entry}
use Rattle.table.proofs.TableChildren.{entry_there}
use Rattle.table.proofs.TableShrinking.{changed, placed_after, sorted_after, apart_after, exact_after, size_given_back, total_given_back, one_less}
use Rattle.table.proofs.TableFileSystem.remove.Goals as goal

-- what holds of entries and bytes holds of what is equal to them
carried : (P : List Entry → List ℕ → Type 0) (es es' : List Entry) (bs bs' : List ℕ) → es' ≡ es → bs' ≡ bs → P es bs → P es' bs'
carried P es es' bs bs' a b h = subst (λ x. P x bs') (sym a) (subst (λ x. P es x) (sym b) h)

pub returns-clause-changes_that_path_alone : goal.returns-clause-changes_that_path_alone
returns-clause-changes_that_path_alone c = λ s.
    let t = c.args.self.now in
    let p = c.args.path.now in
    let es = held t.entries in
    let bs = held t.bytes in
    let passed = c.in_ok-check_removal.ensures.first_that_fails s in
    let not_root = placed_not_root (table_tree t) p passed.1 in
    let r = c.take_out.ensures.one_entry_less s (entry_there (table_tree t) p (table_tree t p) bs (sought bs es p) (tree_entry es bs p not_root) passed.2) in
    let xs = take r.at es in
    let ys = drop (r.at + 1) es in
    carried (λ zs ws. Changed (tree_of es bs) (tree_of zs ws) p nothing) _ _ _ _ r.entries r.bytes
    (subst (λ (zs : List Entry). Changed (tree_of zs bs) (tree_of (map (moved r.entry.start (size_of r.entry)) (xs ++ ys)) (closed r.entry.start (size_of r.entry) bs)) p nothing) (sym r.there)
    (changed xs ys r.entry bs p r.path (subst (Placed bs) r.there s.placed) (subst AllApart r.there s.apart) (subst (Sorted bs) r.there s.sorted) r.those_before not_root))

pub returns-clause-stays_sound : goal.returns-clause-stays_sound
returns-clause-stays_sound c = λ s.
    let t = c.args.self.now in
    let p = c.args.path.now in
    let es = held t.entries in
    let bs = held t.bytes in
    let passed = c.in_ok-check_removal.ensures.first_that_fails s in
    let not_root = placed_not_root (table_tree t) p passed.1 in
    let r = c.take_out.ensures.one_entry_less s (entry_there (table_tree t) p (table_tree t p) bs (sought bs es p) (tree_entry es bs p not_root) passed.2) in
    let xs = take r.at es in
    let ys = drop (r.at + 1) es in
    let placed = subst (Placed bs) r.there s.placed in
    let apart = subst AllApart r.there s.apart in
    let sorted = subst (Sorted bs) r.there s.sorted in
    record {
      entries = r.entries_within;
      room = r.bytes_within;
      placed = carried (λ zs ws. Placed ws zs) _ _ _ _ r.entries r.bytes (placed_after xs ys r.entry bs p r.path placed apart sorted);
      sorted = carried (λ zs ws. Sorted ws zs) _ _ _ _ r.entries r.bytes (sorted_after xs ys r.entry bs p r.path placed apart sorted);
      exact = carried (λ zs ws. total zs ≡ length ws) _ _ _ _ r.entries r.bytes (exact_after xs ys r.entry bs p r.path placed apart sorted (sym (ap total r.there) ∙ s.exact));
      apart = carried (λ zs ws. AllApart zs) _ _ _ _ r.entries r.bytes (apart_after xs ys r.entry bs p r.path placed apart sorted);
    }

pub returns-clause-gives_exactly_its_space_back : goal.returns-clause-gives_exactly_its_space_back
returns-clause-gives_exactly_its_space_back c = λ s.
    let t = c.args.self.now in
    let p = c.args.path.now in
    let es = held t.entries in
    let bs = held t.bytes in
    let passed = c.in_ok-check_removal.ensures.first_that_fails s in
    let not_root = placed_not_root (table_tree t) p passed.1 in
    let r = c.take_out.ensures.one_entry_less s (entry_there (table_tree t) p (table_tree t p) bs (sought bs es p) (tree_entry es bs p not_root) passed.2) in
    let xs = take r.at es in
    let ys = drop (r.at + 1) es in
    let placed = subst (Placed bs) r.there s.placed in
    let apart = subst AllApart r.there s.apart in
    let sorted = subst (Sorted bs) r.there s.sorted in
    let size = size_given_back xs ys r.entry bs p r.path placed apart sorted r.those_before not_root in
    record {
      one_entry = ap (λ zs. length zs + 1) r.entries ∙ one_less xs ys r.entry bs p r.path placed apart sorted ∙ sym (ap length r.there);
      its_bytes = omega (arith, size, ap (λ zs. content_size (tree_of zs bs p)) r.there, ap total r.entries, total_given_back xs ys r.entry bs p r.path placed apart sorted, ap total r.there);
    }
