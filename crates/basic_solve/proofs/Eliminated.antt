-- Elimination of the nodes of a model, one after another.
use Rattle.basic_solve.proofs.Common.{All-from_recursion, inr, inl, cases_eq, ints, nat_tests, ◌≡◌, ◌≢◌, ℕ, suc, ◌+◌, ◌-◌, ◌*◌, ◌<◌, ◌≤◌, ◌==◌, ◌||◌, ℤ, pos, unsigned_abs, max, Bool, true, false, cond, List, [], ◌∷◌, ◌++◌, length, get_or, set, replicate, refl, sym, arith, ap, ◌∙◌, subst, eq-eqb, int_min, All, sum_by, length-append, get_or_append_left, get_or_at, get_or_past, get_or-replicate, get_or-set_same, get_or-set_other, get_or-append_seam, Entry, Kind, energy, Written, IsPlaced, form_of, weight_total, is_in, coupled, names_both, is_neighbour, AreNeighbourhoods, TableOver, AreEntriesOf, IsChoiceOf, IsHandedOn, IsPassedTo, IsSettled, LeadTo, most, own_size, own_energy, table_energy, sum_by_push, or_left, false≢true, All-push}
use Rattle.basic_solve.proofs.Ascending.{Ascends, ascends_from}
use Rattle.basic_solve.proofs.Graphs.{graph-after, neighbour_left}
use Rattle.basic_solve.proofs.Passing.{ascends_push, by_last, in_push, member_at, first_graph, named_within}
use Rattle.basic_solve.proofs.Among.{first_neighbour, both_neighbours, part_of}
use Rattle.basic_solve.proofs.TableSizes.{most-at, most-le}
use Rattle.basic_solve.proofs.ListSums.{sums-none, sums-push, sums-at, any_of-sum}
use Rattle.basic_solve.proofs.NodeTables.{bit_is, lesser_holds}
use Rattle.basic_solve.proofs.Eliminating.{IsLeft, LeftAfter, chosen-is, left_at_first, left_next, left_alone}

-- what waits is no greater than this, together
abbrev pub table_size : TableOver → ℕ
table_size t = most t.values

-- the neighbours of a node
abbrev pub set_of : Written → List (List ℕ) → ℕ → List ℕ
set_of m sets w = get_or sets (m.nodes - suc w) []

-- so many nodes are eliminated, and each of them has chosen
pub record Eliminated (m : Written) (sets : List (List ℕ)) (step : ℕ) (held : List (List Entry))
    (waiting : List (List TableOver)) (choices : List (List Bool)) : Type 0 where
  pub left : LeftAfter m.kind m.nodes step (energy (form_of m)) held waiting
  pub count : length choices ≡ step
  pub each : (s : ℕ) → s < step
      → IsChoiceOf m.nodes s (energy (form_of m)) (get_or sets s []) (get_or choices s [])
  pub nodes : (w : ℕ) → w < length held
      → IsLeft (set_of m sets w) w (get_or held w []) (get_or waiting w [])
  pub size : 3 * sum_by weight_total held + sum_by (sum_by table_size) waiting
      ≤ 3 * weight_total m.entries

-- ---- at first

coupler_names : (e : Entry) (w : ℕ) → e.first < e.second → e.second ≡ w
    → names_both e.first w e ≡ true
coupler_names e w lt is = grind (arith, nat_tests)

one_where : (t : Bool) → t ≡ true → ◌≡◌ {A = ℕ} (cond t 1 0) 1
one_where t e = grind arith

leads_at_first : (m : Written) (sets : List (List ℕ)) (held : List (List Entry))
    → AreNeighbourhoods 16 m sets → AreEntriesOf m.nodes m.entries held → (w : ℕ) → w < length held
    → LeadTo (set_of m sets w) (get_or held w [])
leads_at_first m sets held near a w h k d l other =
    let e = get_or (get_or held w []) k d in
    let of = All-from_recursion (λ e. (e.first ≤ w) × (e.second ≡ w)) (get_or held w []) (a.each w h) k d l in
    let apart : e.first ≢ e.second = λ same. false≢true (sym other ∙ eq-eqb e.first e.second same) in
    let below : e.first < w = omega (arith, of.0, of.1) in
    let node : w < m.nodes = omega (arith, a.count) in
    let test : Entry → ℕ = λ x. cond (names_both e.first w x) 1 0 in
    let one = one_where (names_both e.first w e) (coupler_names e w (omega (arith, of.1)) of.1) in
    let some = sums-at test held w k d h l in
    let joined = any_of-sum (names_both e.first w) m.entries (omega (arith, one, some, a.sums test)) in
    (near.each w node).members e.first ∙ first_neighbour m w e.first node below joined

pub eliminated_at_first : (m : Written) (sets : List (List ℕ)) (held : List (List Entry))
    → AreNeighbourhoods 16 m sets → AreEntriesOf m.nodes m.entries held → Eliminated m sets 0 held (replicate m.nodes []) []
eliminated_at_first m sets held near a = record {
  left = left_at_first m held a;
  count = refl;
  each = λ s h. absurd (omega arith);
  nodes = λ w h. record {
    entries = a.each w h;
    leads = leads_at_first m sets held near a w h;
    passed = rw (get_or-replicate {A = List TableOver} m.nodes w [] [] (omega (arith, h, a.count))) (λ k d l. absurd (omega arith));
  };
  size = omega (arith, a.sums (λ e. unsigned_abs e.weight), sums-none table_size m.nodes);
}

-- ---- the lesser numbers

min-size : (a b : ℤ) → unsigned_abs (int_min a b) ≤ max (unsigned_abs a) (unsigned_abs b)
min-size a b = grind (arith, ints)

lesser-most : (zeros ones values : List ℤ) (b : ℕ) → length values ≡ length zeros
    → ((x : ℕ) → x < length zeros
    → get_or values x (pos 0) ≡ int_min (get_or zeros x (pos 0)) (get_or ones x (pos 0)))
    → most zeros ≤ b → most ones ≤ b → most values ≤ b
lesser-most zeros ones values b long h z o = grind (arith, nat_tests, ints, most-le, min-size, most-at)

-- ---- one node

-- what holds of the next node, once its entries and tables are taken
pub record NextNode (m : Written) (kind : Kind) (sets : List (List ℕ)) (step : ℕ)
    (choices : List (List Bool)) (front : List (List Entry)) (own : List Entry)
    (before : List (List TableOver)) (tables : List TableOver) (ns : List ℕ) (v : ℕ)
    : Type 0 where
  pub node : IsLeft ns v own tables
  pub few : length ns ≤ 16
  pub small : own_size own tables ≤ 3 * weight_total m.entries
  pub within : (values : List ℤ) (bits : List Bool)
      → IsSettled kind v ns own tables values bits → All (λ u. u < length before) ns
  pub next : (values : List ℤ) (bits : List Bool)
      → IsSettled kind v ns own tables values bits → (passed : List (List TableOver))
      → IsHandedOn (record { nodes = ns; values = values }) before passed
      → Eliminated m sets (step + 1) front passed (choices ++ bits ∷ [])

module _ (m : Written) (sets : List (List ℕ)) (near : AreNeighbourhoods 16 m sets) (step : ℕ)
    (choices : List (List Bool)) (front : List (List Entry)) (own : List Entry)
    (before : List (List TableOver)) (tables : List TableOver)
    (e : Eliminated m sets step (front ++ own ∷ []) (before ++ tables ∷ []) choices) (ns : List ℕ)
    (ns_is : ns ≡ get_or sets step []) (v : ℕ) (v_is : v + suc step ≡ m.nodes) where
  held_long : length (front ++ own ∷ []) ≡ length front + 1
  held_long = length-append front (own ∷ [])

  front_long : length front ≡ v
  front_long = omega (arith, e.left.left, held_long, v_is)

  before_long : length before ≡ v
  before_long = omega (arith, e.left.as_many, held_long, length-append before (tables ∷ []), front_long)

  node : v < m.nodes
  node = omega (arith, v_is)

  set_is : set_of m sets v ≡ ns
  set_is = grind (arith, nat_tests)

  -- what is left at the node, and before it
  last : IsLeft ns v own tables
  last =
      let held = get_or_at front own [] [] v front_long in
      let waiting = get_or_at before tables [] [] v before_long in
      rw (set_is, held, waiting) at (e.nodes v (omega (arith, held_long, front_long)))

  left : (w : ℕ) → w < length front
      → IsLeft (set_of m sets w) w (get_or front w []) (get_or before w [])
  left w h =
      let held = get_or_append_left front (own ∷ []) [] w h in
      let waiting = get_or_append_left before (tables ∷ []) [] w (omega (arith, h, front_long, before_long)) in
      rw (held, waiting) at (e.nodes w (omega (arith, h, held_long)))

  held_sum : sum_by weight_total (front ++ own ∷ []) ≡ sum_by weight_total front + weight_total own
  held_sum = sum_by_push weight_total front own

  waiting_sum : sum_by (sum_by table_size) (before ++ tables ∷ [])
      ≡ sum_by (sum_by table_size) before + sum_by table_size tables
  waiting_sum = sum_by_push (sum_by table_size) before tables

  -- its neighbours are below it
  ascends : Ascends 0 ns
  ascends = ascends_from ns 0 (λ l. omega arith) (rw set_is at (near.each v node).ascending)

  neighbour : (u : ℕ) → is_in ns u ≡ true → is_neighbour m v u ≡ true
  neighbour u i = let is = (near.each v node).members u in let same = set_is in grind (arith, nat_tests)

  -- ---- what is chosen

  module _ (placed : All (IsPlaced m.nodes) m.entries) (values : List ℤ) (bits : List Bool)
      (s : IsSettled m.kind v ns own tables values bits) where
    below : (u : ℕ) → is_in ns u ≡ true → u < v
    below u i =
        let graph = first_graph m.entries in
        let lt = neighbour_left m.nodes (coupled m.entries) graph (named_within m.nodes m.entries placed)
        (m.nodes - suc v) (omega (arith, node)) u v (neighbour u i) in
        let apart = (graph-after m.nodes (coupled m.entries) graph (m.nodes - suc v)).apart v in
        let other : u ≢ v = λ same. apart (rw same at (neighbour u i)) in
        omega (arith, node)

    abbrev pub table : TableOver
    table = record { nodes = ns; values = values }

    holds : (y : List Bool) → length y ≡ length front → table_energy y table
        ≡ int_min (own_energy m.kind own tables y false) (own_energy m.kind own tables y true)
    holds y w = lesser_holds s y (w ∙ front_long)

    small : most values ≤ own_size own tables
    small = lesser-most s.zeros s.ones values (own_size own tables) s.count s.lesser s.zero.small s.one.small

    choice : IsChoiceOf m.nodes step (energy (form_of m)) ns bits
    choice = record {
      count = omega (arith, s.zero.count, s.bit_count);
      each = λ y w.
          let long : length y ≡ v = omega (arith, w, v_is) in
          chosen-is front own before tables e.left (set_of m sets) left y (long ∙ sym front_long) ∙ sym (bit_is s y long);
    }

    all_each : (s : ℕ) → s < step + 1 → IsChoiceOf m.nodes s (energy (form_of m)) (get_or sets s [])
        (get_or (choices ++ bits ∷ []) s [])
    all_each s h = grind (arith, nat_tests, cases_eq, get_or-append_seam, choice, get_or_append_left)

    all_count : length (choices ++ bits ∷ []) ≡ step + 1
    all_count = length-append choices (bits ∷ []) ∙ ap (λ n. n + 1) e.count

    -- where it has no neighbours
    eliminated_alone : ns ≡ [] → Eliminated m sets (step + 1) front before (choices ++ bits ∷ [])
    eliminated_alone none = record {
      left = left_alone front own before tables e.left (set_of m sets) left table holds none;
      count = all_count;
      each = all_each;
      nodes = left;
      size = omega (arith, held_sum, waiting_sum, e.size);
    }

    -- where it has some, the last of which gets the table
    module _ (rest : List ℕ) (q : ℕ) (parts : ns ≡ rest ++ q ∷ []) where
      rising : Ascends 0 rest × ((u : ℕ) → is_in rest u ≡ true → u < q)
      rising = ascends_push 0 rest q (rw parts at ascends)

      in_set : (u : ℕ) → (is_in rest u || (q == u)) ≡ true → is_in ns u ≡ true
      in_set u i = rw (parts, in_push rest q u) i

      last_in : is_in ns q ≡ true
      last_in = in_set q (grind (arith, nat_tests))

      last_below : q < v
      last_below = below q last_in

      is_passed : IsPassedTo q (set_of m sets q) table
      is_passed =
          let near_q = near.each q (omega (arith, last_below, node)) in
          record {
            rest = rest;
            parts = parts;
            among = part_of 0 0 (set_of m sets q) rest
                (ascends_from (set_of m sets q) 0 (λ l. omega arith) near_q.ascending) rising.0 (λ u i.
                near_q.members u
                ∙ both_neighbours m v q u node last_below (rising.1 u i) (first_graph m.entries)
                (neighbour u (in_set u (or_left (is_in rest u) (q == u) i))) (neighbour q last_in));
            below = λ k d h. rising.1 (get_or rest k d) (member_at rest k d h);
            count = s.count ∙ s.zero.count;
          }

      abbrev pub next : List (List TableOver)
      next = set before q (get_or before q [] ++ table ∷ [])

      within : q < length before
      within = omega (arith, last_below, before_long)

      left_then : (w : ℕ) → w < length front
          → IsLeft (set_of m sets w) w (get_or front w []) (get_or next w [])
      left_then w h =
          let old = left w h in
          elim (cases_eq w q) [
            | inl is ↦
                let P = IsPassedTo w (set_of m sets w) in
                let this : P table = subst (λ k. IsPassedTo k (set_of m sets k) table) (sym is) is_passed in
                let set_at = ap (λ k. get_or next k []) is ∙ get_or-set_same before q _ [] within
                ∙ ap (λ k. get_or before k [] ++ table ∷ []) (sym is) in
                record {
                  entries = old.entries;
                  leads = old.leads;
                  passed = rw set_at (All-push P (get_or before w []) table old.passed this);
                }
            | inr other ↦ rw (get_or-set_other before q w (get_or before q [] ++ table ∷ []) [] other) old
          ]

      eliminated_next : Eliminated m sets (step + 1) front next (choices ++ bits ∷ [])
      eliminated_next = record {
        left = left_next front own before tables e.left (set_of m sets) left table holds q (omega (arith, last_below, front_long));
        count = all_count;
        each = all_each;
        nodes = left_then;
        size = omega (arith, held_sum, waiting_sum, e.size, sums-push table_size q before table within, small);
      }

    -- whichever nodes get the table
    eliminated_one : (passed : List (List TableOver)) → IsHandedOn table before passed
        → Eliminated m sets (step + 1) front passed (choices ++ bits ∷ [])
    eliminated_one passed h =
        by_last ns
        (λ none. rw (h.none none) (eliminated_alone none))
        (λ rest q parts. rw (h.last rest q parts) (eliminated_next rest q parts))

  -- what a step needs
  pub next_node : (kind : Kind) → kind ≡ m.kind → All (IsPlaced m.nodes) m.entries
      → NextNode m kind sets step choices front own before tables ns v
  next_node kind same placed = record {
    node = last;
    few = omega (arith, ap length set_is, near.narrow v node);
    small = omega (arith, held_sum, waiting_sum, e.size);
    within = λ values bits settled k d h.
        let lt = below placed values bits (rw same at settled) (get_or ns k d) (member_at ns k d h) in
        omega (arith, before_long);
    next = λ values bits settled. eliminated_one placed values bits (rw same at settled);
  }

-- ---- all nodes

-- each list of neighbours is short, and there is none past the last
pub narrow_all : (m : Written) (sets : List (List ℕ)) → AreNeighbourhoods 16 m sets → (step : ℕ)
    → length (get_or sets step []) ≤ 16
narrow_all m sets near step =
    let le = near.narrow (m.nodes - suc step) in
    let past = get_or_past sets step [] in
    let count = near.count in
    let at : step < m.nodes → m.nodes - suc (m.nodes - suc step) ≡ step = λ h. omega arith in
    grind (arith, nat_tests)
