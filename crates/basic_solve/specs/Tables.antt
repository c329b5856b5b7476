-- Tables of least energies: a number for each choice of the bits of some nodes.
use Rattle.std.specs.Prelude.{◌≡◌, ℕ, zero, suc, ◌+◌, ◌*◌, ◌^◌, ◌<◌, ◌≤◌, ℤ, pos, ◌+ℤ◌, ◌*ℤ◌, neg_ℤ, int_lt, unsigned_abs, max, ◌&&◌, ◌==◌, Bool, true, false, cond, List, [], ◌∷◌, ◌++◌, length, map, set}
use Rattle.std.specs.Int.{int_min}
use Rattle.basic_solve.specs.FirstLeast.{chosen}
use Rattle.std.specs.List.{slice_index_or, All, AllByRecursion, sum_by}
use Rattle.base.specs.Sums.{if_so, total_by}
use Rattle.bits_model.specs.Output.{bit_at, entry_energy, is_node, times_spin, weight_total}
use Rattle.bits_model.specs.Walks.{is_in}
use Rattle.bits_model.specs.declared.output.Kind.TheVariants.{Qubo, Ising, Qubits}
use Rattle.bits_model.specs.declared.output.Entry.{Entry}
use Rattle.bits_model.specs.declared.output.Kind.{Kind}

-- the number whose digits are the bits of these nodes, the lowest that of the first of them
abbrev pub index_of : List Bool → List ℕ → ℕ
index_of y [] = 0
index_of y (u ∷ us) = cond (bit_at y u) 1 0 + 2 * index_of y us

-- the number that stands at a place of a table, and 0 past its end
abbrev pub number_at : List ℤ → ℕ → ℤ
number_at values x = slice_index_or values x (pos 0)

-- these are the first numbers of a table, so many
abbrev pub HasNumbers : List ℤ → ℕ → (ℕ → ℤ) → Type 0
HasNumbers values count number = (x : ℕ) → x < count → number_at values x ≡ number x

-- the number at a place of a table, with the one that another table has where `places` sends it,
-- past a start: with places [0, 0, 1, 1] and start 2, place 3 takes the other table's number 3
abbrev pub sum_at : (values more : List ℤ) → (places : List ℕ) → ℕ → ℕ → ℤ
sum_at values more places start x =
    number_at values x +ℤ number_at more (start + slice_index_or places x 0)

-- whether the first table has the lesser number at a place
abbrev pub is_lesser_at : (values others : List ℤ) → ℕ → Bool
is_lesser_at values others x = int_lt (number_at values x) (number_at others x)

-- the lesser of the numbers that two tables have at a place
abbrev pub lesser_at : (values others : List ℤ) → ℕ → ℤ
lesser_at values others x = int_min (number_at values x) (number_at others x)

-- what a table over these nodes holds for a state
abbrev pub value_at : List ℕ → List ℤ → List Bool → ℤ
value_at nodes values y = slice_index_or values (index_of y nodes) (pos 0)

-- a table, and for each step the table so far once more with the step added
abbrev pub doubled : {A : Type 0} → (A → A → A) → List A → List A → List A
doubled plus values [] = values
doubled plus values (step ∷ steps) = doubled plus (values ++ map (λ v. plus v step) values) steps

-- a number, and the steps of those nodes added whose bit is 1
abbrev pub stepped : {A : Type 0} → (A → A → A) → List Bool → A → List ℕ → List A → A
stepped plus y v [] steps = v
stepped plus y v (u ∷ us) [] = v
stepped plus y v (u ∷ us) (step ∷ steps) =
    stepped plus y (cond (bit_at y u) (plus v step) v) us steps

-- the sum of the steps of those nodes whose bit is 1
abbrev pub sum_where : List Bool → List ℕ → List ℤ → ℤ
sum_where y [] steps = pos 0
sum_where y (u ∷ us) [] = pos 0
sum_where y (u ∷ us) (step ∷ steps) = if_so (bit_at y u) step +ℤ sum_where y us steps

-- what each node adds to the index in a table over some of them, the first of which has the digit p
abbrev pub places : ℕ → List ℕ → List ℕ → List ℕ
places p [] ks = []
places p (u ∷ us) [] = 0 ∷ places p us []
places p (u ∷ us) (k ∷ ks) = cond (u == k) (p ∷ places (p + p) us ks) (0 ∷ places p us (k ∷ ks))

-- so many digits, the first of which is p, and each other twice the one before it
abbrev pub powers : ℕ → ℕ → List ℕ
powers p zero = []
powers p (suc n) = p ∷ powers (p + p) n

-- a table: a number for each choice of the bits of its nodes
pub record TableOver : Type 0 where
  pub nodes : List ℕ
  pub values : List ℤ

-- what a table holds for a state
abbrev pub table_energy : List Bool → TableOver → ℤ
table_energy y t = value_at t.nodes t.values y

-- what lists of entries add to the energy of a state
abbrev pub held_energy : Kind → List Bool → List (List Entry) → ℤ
held_energy kind y held = total_by (λ es. total_by (entry_energy kind y) es) held

-- what lists of tables add to it
abbrev pub waiting_energy : List Bool → List (List TableOver) → ℤ
waiting_energy y waiting = total_by (λ ts. total_by (table_energy y) ts) waiting

-- the entries of a node: its own, and couplers of which it is the second node
abbrev pub AreOf : ℕ → List Entry → Type 0
AreOf w es = AllByRecursion (λ e. (e.first ≤ w) × (e.second ≡ w)) es

-- ---- what the entries of a node add

-- what an entry of a node adds where the node has a bit and the other node has 0
abbrev pub base_of : Kind → Bool → Entry → ℤ
base_of Qubo bit e = if_so (bit && is_node e) e.weight
base_of Ising bit e = times_spin bit (cond (is_node e) e.weight (neg_ℤ e.weight))
base_of (Qubits graph) bit e =
    times_spin bit (cond (is_node e) e.weight (neg_ℤ e.weight))

-- what such an entry adds besides where the other node has 1
abbrev pub step_of : Kind → Bool → Entry → ℤ
step_of Qubo bit e = if_so bit e.weight
step_of Ising bit e = times_spin bit (pos 2 *ℤ e.weight)
step_of (Qubits graph) bit e = times_spin bit (pos 2 *ℤ e.weight)

-- what such an entry adds besides for a state
abbrev pub step_at : Kind → Bool → List Bool → Entry → ℤ
step_at kind bit y e = cond (is_node e) (pos 0) (if_so (bit_at y e.first) (step_of kind bit e))

-- the entries of each of n nodes, which add up to all entries, in what they add to energies and in
-- any other number
pub record AreEntriesOf (n : ℕ) (entries : List Entry) (held : List (List Entry)) : Type 0 where
  pub count : length held ≡ n
  pub each : (w : ℕ) → w < length held → AreOf w (slice_index_or held w [])
  pub whole : (kind : Kind) (y : List Bool)
      → held_energy kind y held ≡ total_by (entry_energy kind y) entries
  pub sums : (f : Entry → ℕ) → sum_by (sum_by f) held ≡ sum_by f entries

-- ---- choices

-- the bits that a node chooses, one for each choice of its neighbours' bits, and maybe more
pub record IsChoiceOf (n step : ℕ) (g : List Bool → ℤ) (nodes : List ℕ) (bits : List Bool)
    : Type 0 where
  pub count : 2 ^ length nodes ≤ length bits
  pub each : (y : List Bool) → length y + suc step ≡ n
      → chosen step g y ≡ slice_index_or bits (index_of y nodes) false

-- the choices of all nodes, from the last one on
pub record AreChoices (n : ℕ) (g : List Bool → ℤ) (sets : List (List ℕ))
    (choices : List (List Bool)) : Type 0 where
  pub count : length choices ≡ n
  pub each : (step : ℕ) → step < n
      → IsChoiceOf n step g (slice_index_or sets step []) (slice_index_or choices step [])

-- ---- sizes

-- the greatest size of these numbers
abbrev pub most : List ℤ → ℕ
most [] = 0
most (v ∷ vs) = max (unsigned_abs v) (most vs)

-- ---- the table of a node

-- the nodes of a table stand among these, both ascending
abbrev pub is_part : List ℕ → List ℕ → Bool
is_part us [] = true
is_part [] (k ∷ ks) = false
is_part (u ∷ us) (k ∷ ks) = cond (u == k) (is_part us ks) (is_part us (k ∷ ks))

-- a table that is passed to the node v, which has these neighbours
pub record IsPassedTo (v : ℕ) (nodes : List ℕ) (t : TableOver) : Type 0 where
  pub rest : List ℕ
  pub parts : t.nodes ≡ rest ++ v ∷ []
  pub among : is_part nodes rest ≡ true
  pub below : All (λ u. u < v) rest
  pub count : length t.values ≡ 2 ^ length t.nodes

-- a table over the nodes below v after one that is passed to v is added, where v has this bit: it
-- holds for each state of those nodes what it held, and what the other holds for the state and the bit
abbrev pub Adds : List ℕ → TableOver → Bool → (old new : List ℤ) → Type 0
Adds nodes t bit old new = (v : ℕ) (y : List Bool) → IsPassedTo v nodes t → length y ≡ v
    → value_at nodes new y ≡ value_at nodes old y +ℤ table_energy (y ++ bit ∷ []) t

-- the lists of tables after this table is appended to the list of its last node
pub record IsHandedOn (t : TableOver) (lists passed : List (List TableOver)) : Type 0 where
  pub none : t.nodes ≡ [] → passed ≡ lists
  pub last : (rest : List ℕ) (q : ℕ) → t.nodes ≡ rest ++ q ∷ []
      → passed ≡ set lists q (slice_index_or lists q [] ++ t ∷ [])

-- the couplers of a node lead to these nodes
abbrev pub LeadTo : List ℕ → List Entry → Type 0
LeadTo nodes entries = All (λ e. is_node e ≡ false → is_in nodes e.first ≡ true) entries

-- what a node adds to the energy of a state where it has a bit
abbrev pub own_energy : Kind → List Entry → List TableOver → List Bool → Bool → ℤ
own_energy kind entries tables y bit =
    total_by (entry_energy kind (y ++ bit ∷ [])) entries
    +ℤ total_by (table_energy (y ++ bit ∷ [])) tables

-- the sizes of what a node adds
abbrev pub own_size : List Entry → List TableOver → ℕ
own_size entries tables = 3 * weight_total entries + sum_by (λ t. most t.values) tables

-- the node v has these entries, over few nodes, and was passed these tables: what it adds is small
pub record IsReady (v : ℕ) (nodes : List ℕ) (entries : List Entry) (tables : List TableOver)
    (room : ℕ) : Type 0 where
  pub own : AreOf v entries
  pub members : LeadTo nodes entries
  pub passed : All (IsPassedTo v nodes) tables
  pub few : length nodes ≤ 16
  pub light : weight_total entries ≤ 2 ^ 124
  pub small : own_size entries tables ≤ room

-- the numbers that the node v adds with this bit, one for each choice of its neighbours' bits
pub record IsTableOfBit (kind : Kind) (v : ℕ) (bit : Bool) (nodes : List ℕ) (entries : List Entry)
    (tables : List TableOver) (values : List ℤ) : Type 0 where
  pub count : length values ≡ 2 ^ length nodes
  pub holds : (y : List Bool) → length y ≡ v
      → value_at nodes values y ≡ own_energy kind entries tables y bit
  pub small : most values ≤ own_size entries tables

-- the lesser numbers that the node v adds, one for each choice of its neighbours' bits, and the bits
-- with which it adds them
pub record IsSettled (kind : Kind) (v : ℕ) (nodes : List ℕ) (entries : List Entry)
    (tables : List TableOver) (values : List ℤ) (bits : List Bool) : Type 0 where
  pub zeros : List ℤ
  pub ones : List ℤ
  pub zero : IsTableOfBit kind v false nodes entries tables zeros
  pub one : IsTableOfBit kind v true nodes entries tables ones
  pub bit_count : length zeros ≤ length bits
  pub bit : (x : ℕ) → x < length zeros
      → slice_index_or bits x false ≡ is_lesser_at ones zeros x
  pub count : length values ≡ length zeros
  pub lesser : (x : ℕ) → x < length zeros
      → number_at values x ≡ lesser_at zeros ones x
