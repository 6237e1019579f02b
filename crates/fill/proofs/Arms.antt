-- A row of the string, arm by arm: what the functions below ask for, and that the nodes have then got what the row gives them.
-- A row gives its own node itself, and then the nodes below what its child rows give them.
use mathlib.Core.Path.{◌≡◌, refl, sym, ap, subst, ◌∙◌}
use mathlib.Core.Bool.{Bool, true, false, cond, false≢true}
use mathlib.Core.List.{List, [], ◌∷◌}
use Prim.Native.Nat.{ℕ, zero, suc, ◌+◌, ◌-◌, ◌≤◌, ◌<◌}
use native.Mathlib.Omega.{arith}
use lib.ListN.{length, drop}
use borrow.Author.Tests.{eq-eqb, ne_eqb}
use Rattle.image.specs.declared.type_code.Layout.{Layout}
use Rattle.image.specs.declared.type_code.Layout.TheVariants.{Null, Boolean, FixedWidth, VariableSize, View, List as Lists, ListView, FixedList, Struct, DenseUnion, SparseUnion, Dictionary, Runs}
use Rattle.image.specs.Bytes.{byte_at, number_at, bytes_at}
use Rattle.image.specs.Record.{node_count, code_of, first_child, child_count}
use Rattle.image.specs.TypeCode.{entries, entry_of, layout_of, takes_bitmap}
use Rattle.image.specs.Element.{element_width, child_end}
use Rattle.image.specs.Row.{Row, Rows, null, fixed, sized, joined, counted, none, rows_then}
use Rattle.image.specs.RowBytes.{count}
use Rattle.image.specs.Parse.{Parsed, parsed, rows_of, row_of_each, value_in, row_in}
use Rattle.image.specs.Built.{span, gap_row}
use Rattle.laws.proofs.Accepted.{accepted}
use Rattle.laws.proofs.Lengths.{bytes_length}
use Rattle.built.specs.Walk.{own, over_nodes, over_each, deeper, gives, total, the_row, the_rows}
use Rattle.built.proofs.Parsed.{failed_not}
use Rattle.built.proofs.Walk.{then_none}
use Rattle.fill.specs.Filling.{State, Rooms, Ready, Getting, Filled, StructFilled, ListFilled, Walked, RowWalk, RowWalked, RowsWalk, RowsWalked, row_gives, gap_gives}
use Rattle.fill.proofs.Steps.{filled_none, filled_as, filled_then, rooms_as, rooms_first, rooms_rest, ready_after}
use Rattle.fill.proofs.Reading.{Mark, a_null, a_value, read_deep, read_inside, read_mark, read_null, read_boolean, read_fixed, read_text, read_list, read_struct}
use Rattle.fill.proofs.Walks.{the_rows_lem, rows_count, Going, going_start, going_row, going_more, going_done, GapsLeft, gaps_start, gaps_done}

-- a row's own node first, and then those below
gives_first : (d : ℕ) (s : List ℕ) (k : ℕ) (r : Row) (j : ℕ) → 0 < d → gives d s k r j ≡ rows_then (own r k j) (deeper (λ c q. gives (d - 1) s c q j) s k r)
unfolding gives
gives_first zero s k r j deep = absurd (omega arith)
gives_first (suc d) s k r j deep =
    let e : suc d - 1 ≡ d = omega arith in
    rw e

own_count : (r : Row) (k : ℕ) → count (own r k k) ≡ 1
unfolding count
own_count r k = rw (eq-eqb k k refl)

own_total : (r : Row) (k : ℕ) → total (own r k k) ≡ span r
unfolding total
own_total r k = rw (eq-eqb k k refl) (omega arith)

module _ {s places : List ℕ} {f : State} {d k : ℕ} (ready : Ready s places f) (node : k < node_count s) (deep : 0 < d) (r : Row) (rooms : Rooms s places (λ j. gives d s k r j) f) where
  both : Rooms s places (λ j. rows_then (own r k j) (deeper (λ c q. gives (d - 1) s c q j) s k r)) f
  both = rooms_as rooms (λ j lt. gives_first d s k r j deep)

  pub row_getting : Getting s places f k (span r)
  row_getting =
      let room = (rooms_first (λ j. own r k j) (λ j. deeper (λ c q. gives (d - 1) s c q j) s k r) both).room k node in
      record { ready = ready; node = node; room = rw (own_count r k, own_total r k) at room }

  pub below_rooms : {f' : State} → Filled s places (own r k) f f' → Rooms s places (λ j. deeper (λ c q. gives (d - 1) s c q j) s k r) f'
  below_rooms t = rooms_rest both t

  pub row_filled : {f' f'' : State} → Filled s places (own r k) f f' → Filled s places (λ j. deeper (λ c q. gives (d - 1) s c q j) s k r) f' f'' → Filled s places (λ j. gives d s k r j) f f''
  row_filled t u = filled_as (filled_then t u) (λ j lt. sym (gives_first d s k r j deep))

  pub leaf_filled : {f' : State} → ((j : ℕ) → deeper (λ c q. gives (d - 1) s c q j) s k r ≡ none) → Filled s places (own r k) f f' → Filled s places (λ j. gives d s k r j) f f'
  leaf_filled leaf t = filled_as t (λ j lt. sym (gives_first d s k r j deep ∙ ap (rows_then (own r k j)) (leaf j) ∙ then_none (own r k j)))

-- The layouts that the last arm has; of them only a Struct is read.
abbrev pub last_arm : Layout → Bool
last_arm Null = false
last_arm Boolean = false
last_arm FixedWidth = false
last_arm VariableSize = false
last_arm View = true
last_arm Lists = false
last_arm ListView = true
last_arm FixedList = true
last_arm Struct = true
last_arm DenseUnion = true
last_arm SparseUnion = true
last_arm Dictionary = true
last_arm Runs = true

only_struct : (row : ℕ → List ℕ → Parsed Row) (s : List ℕ) (k : ℕ) (x : List ℕ) (r : Row) (rest : List ℕ) (l : Layout) → last_arm l ≡ true → value_in l row s k x ≡ parsed r rest → l ≡ Struct
only_struct row s k x r rest Null a e = absurd (false≢true a)
only_struct row s k x r rest Boolean a e = absurd (false≢true a)
only_struct row s k x r rest FixedWidth a e = absurd (false≢true a)
only_struct row s k x r rest VariableSize a e = absurd (false≢true a)
only_struct row s k x r rest View a e = absurd (failed_not e)
only_struct row s k x r rest Lists a e = absurd (false≢true a)
only_struct row s k x r rest ListView a e = absurd (failed_not e)
only_struct row s k x r rest FixedList a e = absurd (failed_not e)
only_struct row s k x r rest Struct a e = refl
only_struct row s k x r rest DenseUnion a e = absurd (failed_not e)
only_struct row s k x r rest SparseUnion a e = absurd (failed_not e)
only_struct row s k x r rest Dictionary a e = absurd (failed_not e)
only_struct row s k x r rest Runs a e = absurd (failed_not e)

same_rows_rest : {x y : Rows} {u v : List ℕ} → parsed x u ≡ parsed y v → u ≡ v
same_rows_rest e = cc

-- A row of node k with which a string begins.
module _ {s places b : List ℕ} {f : State} {d k : ℕ} (start : RowWalk s places b d k f) where
  abbrev p : Parsed Row
  p = row_in d s k b

  pub row_deep : 0 < d
  row_deep = read_deep d s k b 0 (the_row p) start.walk.reads.rest start.walk.reads.is

  pub row_inside : 1 ≤ length b
  row_inside = read_inside d s k b 0 (the_row p) start.walk.reads.rest start.walk.reads.is

  -- the walk is done, and this is left
  walked_to : {f' : State} (rest : List ℕ) → start.walk.reads.rest ≡ rest → Filled s places (row_gives d s k p) f f' → RowWalked s places b d k f f' rest
  walked_to rest behind t = record { done = record { follows = start.walk.reads.is ∙ ap (parsed (the_row p)) behind; filled = t } }

  -- a null
  module _ (is : byte_at b 0 ≡ 0) where
    null_told : (the_row p ≡ gap_row s k) × (start.walk.reads.rest ≡ drop 1 b)
    null_told = cases (read_mark d s k b 0 (the_row p) start.walk.reads.rest start.walk.reads.is)
      where
        cases : Mark d s k b 0 (the_row p) start.walk.reads.rest → (the_row p ≡ gap_row s k) × (start.walk.reads.rest ≡ drop 1 b)
        cases (a_null zero-mark takes empty behind) = (rw (empty, takes), behind)
        cases (a_value one_mark value) = absurd (omega arith)

    pub null_rooms : Rooms s places (gap_gives d s k) f
    null_rooms = rooms_as start.walk.rooms (λ j lt. ap (λ (r : Row). gives d s k r j) null_told.0)

    pub null_walked : {f' : State} → Filled s places (gap_gives d s k) f f' → RowWalked s places b d k f f' (drop 1 b)
    null_walked t = walked_to (drop 1 b) null_told.1 (filled_as t (λ j lt. ap (λ (r : Row). gives d s k r j) (sym null_told.0)))

  -- a value
  module _ (other : byte_at b 0 ≡ 0 → ⊥) where
    pub value_mark : byte_at b 0 ≡ 1
    value_mark = cases (read_mark d s k b 0 (the_row p) start.walk.reads.rest start.walk.reads.is)
      where
        cases : Mark d s k b 0 (the_row p) start.walk.reads.rest → byte_at b 0 ≡ 1
        cases (a_null zero-mark takes empty behind) = absurd (other zero-mark)
        cases (a_value one_mark value) = one_mark

    value_read : (l : Layout) → layout_of (code_of s k) ≡ l → value_in l (row_in (d - 1) s) s k (drop 1 b) ≡ parsed (the_row p) start.walk.reads.rest
    value_read l e = cases (read_mark d s k b 0 (the_row p) start.walk.reads.rest start.walk.reads.is)
      where
        cases : Mark d s k b 0 (the_row p) start.walk.reads.rest → value_in l (row_in (d - 1) s) s k (drop 1 b) ≡ parsed (the_row p) start.walk.reads.rest
        cases (a_null zero-mark takes empty behind) = absurd (other zero-mark)
        cases (a_value one_mark value) = rw (← e) value

    pub struct_left : last_arm (layout_of (code_of s k)) ≡ true → layout_of (code_of s k) ≡ Struct
    struct_left last = only_struct (row_in (d - 1) s) s k (drop 1 b) (the_row p) start.walk.reads.rest (layout_of (code_of s k)) last (value_read (layout_of (code_of s k)) refl)

    -- a row x without child rows
    module _ (x : Row) (is : the_row p ≡ x) where
      x_rooms : Rooms s places (λ j. gives d s k x j) f
      x_rooms = rooms_as start.walk.rooms (λ j lt. ap (λ (r : Row). gives d s k r j) is)

      x_getting : Getting s places f k (span x)
      x_getting = row_getting start.walk.ready start.node row_deep x x_rooms

      x_filled : {f' : State} → Filled s places (λ j. gives d s k x j) f f' → Filled s places (row_gives d s k p) f f'
      x_filled t = filled_as t (λ j lt. ap (λ (r : Row). gives d s k r j) (sym is))

      x_walked : {f' : State} (rest : List ℕ) → start.walk.reads.rest ≡ rest → ((j : ℕ) → deeper (λ c q. gives (d - 1) s c q j) s k x ≡ none) → Filled s places (own x k) f f' → RowWalked s places b d k f f' rest
      x_walked rest behind leaf t = walked_to rest behind (x_filled (leaf_filled start.walk.ready start.node row_deep x x_rooms leaf t))

    module _ (e : layout_of (code_of s k) ≡ Null) where
      empty_told : (the_row p ≡ fixed []) × (start.walk.reads.rest ≡ drop 1 b)
      empty_told = read_null (row_in (d - 1) s) s k b 1 row_inside (the_row p) start.walk.reads.rest (value_read Null e)

      pub empty_getting : Getting s places f k 0
      empty_getting = x_getting (fixed []) empty_told.0

      pub empty_walked : {f' : State} → Filled s places (own (gap_row s k) k) f f' → RowWalked s places b d k f f' (drop 1 b)
      empty_walked {f'} t =
          let gap : gap_row s k ≡ fixed [] = rw e in
          x_walked (fixed []) empty_told.0 (drop 1 b) empty_told.1 (λ j. refl) (subst (λ (r : Row). Filled s places (own r k) f f') gap t)

    module _ (e : layout_of (code_of s k) ≡ Boolean) where
      bit_told : (2 ≤ length b) × (byte_at b 1 ≤ 1) × (the_row p ≡ fixed (byte_at b 1 ∷ [])) × (start.walk.reads.rest ≡ drop 2 b)
      bit_told = read_boolean (row_in (d - 1) s) s k b 1 row_inside (the_row p) start.walk.reads.rest (value_read Boolean e)

      pub bit_inside : 2 ≤ length b
      bit_inside = bit_told.0

      pub bit_least : byte_at b 1 ≤ 1
      bit_least = bit_told.1

      pub bit_getting : Getting s places f k 0
      bit_getting = x_getting (fixed (byte_at b 1 ∷ [])) bit_told.2

      pub bit_walked : {f' : State} → Filled s places (own (fixed (byte_at b 1 ∷ [])) k) f f' → RowWalked s places b d k f f' (drop 2 b)
      bit_walked t = x_walked (fixed (byte_at b 1 ∷ [])) bit_told.2 (drop 2 b) bit_told.3 (λ j. refl) t

    module _ (e : layout_of (code_of s k) ≡ FixedWidth) where
      fixed_told : (1 + element_width s k ≤ length b) × (the_row p ≡ fixed (bytes_at b 1 (element_width s k))) × (start.walk.reads.rest ≡ drop (1 + element_width s k) b)
      fixed_told = read_fixed (row_in (d - 1) s) s k b 1 row_inside (the_row p) start.walk.reads.rest (value_read FixedWidth e)

      pub fixed_inside : 1 + element_width s k ≤ length b
      fixed_inside = fixed_told.0

      pub fixed_getting : Getting s places f k 0
      fixed_getting = x_getting (fixed (bytes_at b 1 (element_width s k))) fixed_told.1

      fixed_walked : {f' : State} → Filled s places (own (fixed (bytes_at b 1 (element_width s k))) k) f f' → RowWalked s places b d k f f' (drop (1 + element_width s k) b)
      fixed_walked t = x_walked (fixed (bytes_at b 1 (element_width s k))) fixed_told.1 (drop (1 + element_width s k) b) fixed_told.2 (λ j. refl) t

      pub fixed_done : {w : ℕ} {f' : State} → w ≡ element_width s k → Filled s places (own (fixed (bytes_at b 1 w)) k) f f' → RowWalked s places b d k f f' (drop (1 + w) b)
      fixed_done wide t = rw wide (fixed_walked (rw wide at t))

    module _ (e : layout_of (code_of s k) ≡ VariableSize) where
      text_told : (5 ≤ length b) × (5 + number_at 4 b 1 ≤ length b) × (the_row p ≡ sized (bytes_at b 5 (number_at 4 b 1))) × (start.walk.reads.rest ≡ drop (5 + number_at 4 b 1) b)
      text_told = read_text (row_in (d - 1) s) s k b 1 row_inside (the_row p) start.walk.reads.rest (value_read VariableSize e)

      pub text_inside : 5 + number_at 4 b 1 ≤ length b
      text_inside = text_told.1

      pub text_getting : Getting s places f k (number_at 4 b 1)
      text_getting = rw (bytes_length b 5 (number_at 4 b 1)) at (x_getting (sized (bytes_at b 5 (number_at 4 b 1))) text_told.2)

      text_walked : {f' : State} → Filled s places (own (sized (bytes_at b 5 (number_at 4 b 1))) k) f f' → RowWalked s places b d k f f' (drop (5 + number_at 4 b 1) b)
      text_walked t = x_walked (sized (bytes_at b 5 (number_at 4 b 1))) text_told.2 (drop (5 + number_at 4 b 1) b) text_told.3 (λ j. refl) t

      pub text_done : {n : ℕ} {f' : State} → n ≡ number_at 4 b 1 → Filled s places (own (sized (bytes_at b 5 n)) k) f f' → RowWalked s places b d k f f' (drop (5 + n) b)
      text_done many t = rw many (text_walked (rw many at t))

    -- a list: its rows behind its count
    module _ (e : layout_of (code_of s k) ≡ Lists) where
      abbrev items : Parsed Rows
      items = rows_of (row_in (d - 1) s (first_child s k)) (number_at 4 b 1) (drop 5 b)

      list_told : (5 ≤ length b) × ((qs : Rows) × (rows_of (row_in (d - 1) s (first_child s k)) (number_at 4 b 1) (drop 5 b) ≡ parsed qs start.walk.reads.rest) × (the_row p ≡ counted qs))
      list_told = read_list (row_in (d - 1) s) s k b 1 row_inside (the_row p) start.walk.reads.rest (value_read Lists e)

      items_are : items ≡ parsed (the_rows items) start.walk.reads.rest
      items_are =
          list_told.1.1 ∙ ap (λ (x : Rows). parsed x start.walk.reads.rest) (sym (the_rows_lem list_told.1.1))

      list_is : the_row p ≡ counted (the_rows items)
      list_is =
          list_told.1.2 ∙ ap counted (sym (the_rows_lem list_told.1.1))

      pub items_count : count (the_rows items) ≡ number_at 4 b 1
      items_count = rows_count (row_in (d - 1) s (first_child s k)) (number_at 4 b 1) (drop 5 b) (the_rows items) start.walk.reads.rest items_are

      pub list_inside : 5 ≤ length b
      list_inside = omega (arith, list_told.0)

      pub list_getting : Getting s places f k (number_at 4 b 1)
      list_getting = rw items_count at (x_getting (counted (the_rows items)) list_is)

      pub list_child : first_child s k < node_count s
      unfolding child_end
      list_child = omega (arith, ((accepted s start.walk.ready.accepted).node k start.node).tree.exactly 1 (rw e), ((accepted s start.walk.ready.accepted).node k start.node).tree.ends)

      module _ {f' : State} (t : ListFilled s places k (number_at 4 b 1) f f') where
        listed : Filled s places (own (counted (the_rows items)) k) f f'
        listed = t.by (the_rows items) items_count

        pub list_walk : RowsWalk s places (drop 5 b) (d - 1) (first_child s k) (number_at 4 b 1) f'
        list_walk =
            record {
              node = list_child;
              walk = record {
                ready = ready_after start.walk.ready listed;
                reads = record { rest = start.walk.reads.rest; is = items_are };
                rooms = below_rooms start.walk.ready start.node row_deep (counted (the_rows items)) (x_rooms (counted (the_rows items)) list_is) listed;
              };
            }

        pub list_walked : {f'' : State} {z : List ℕ} → RowsWalked s places (drop 5 b) (d - 1) (first_child s k) (number_at 4 b 1) f' f'' z → RowWalked s places b d k f f'' z
        list_walked {f''} {z} v =
            walked_to z (same_rows_rest (sym items_are ∙ v.done.follows))
            (x_filled (counted (the_rows items)) list_is (row_filled start.walk.ready start.node row_deep (counted (the_rows items)) (x_rooms (counted (the_rows items)) list_is) listed v.done.filled))

    -- a Struct: a row of each child
    module _ (e : layout_of (code_of s k) ≡ Struct) where
      abbrev fields : Parsed Rows
      fields = row_of_each (row_in (d - 1) s) (first_child s k) (child_count s k) (drop 1 b)

      struct_told : (qs : Rows) × (fields ≡ parsed qs start.walk.reads.rest) × (the_row p ≡ joined qs)
      struct_told = read_struct (row_in (d - 1) s) s k b 1 row_inside (the_row p) start.walk.reads.rest (value_read Struct e)

      fields_are : fields ≡ parsed (the_rows fields) start.walk.reads.rest
      fields_are = struct_told.1 ∙ ap (λ (x : Rows). parsed x start.walk.reads.rest) (sym (the_rows_lem struct_told.1))

      struct_is : the_row p ≡ joined (the_rows fields)
      struct_is = struct_told.2 ∙ ap joined (sym (the_rows_lem struct_told.1))

      pub struct_getting : Getting s places f k 0
      struct_getting = x_getting (joined (the_rows fields)) struct_is

      module _ {f' : State} (t : StructFilled s places k f f') where
        pub struct_walk : {first n : ℕ} → first ≡ first_child s k → n ≡ child_count s k → Going (row_in (d - 1) s) (λ m q j. gives (d - 1) s m q j) s places first n fields f' f' (drop 1 b) 0
        struct_walk a c =
            going_start (drop 1 b) (rw (a, c))
            (record {
              ready = ready_after start.walk.ready (t.by (the_rows fields));
              reads = record { rest = start.walk.reads.rest; is = fields_are };
              rooms = rw a (below_rooms start.walk.ready start.node row_deep (joined (the_rows fields)) (x_rooms (joined (the_rows fields)) struct_is) (t.by (the_rows fields)));
            })

        pub struct_walked : {f'' : State} {z : List ℕ} {first : ℕ} → first ≡ first_child s k → Walked s places fields (the_rows fields) (λ j. over_each (λ m q. gives (d - 1) s m q j) first (the_rows fields)) f' f'' z → RowWalked s places b d k f f'' z
        struct_walked {f''} {z} a v =
            walked_to z (same_rows_rest (sym fields_are ∙ v.follows))
            (x_filled (joined (the_rows fields)) struct_is (row_filled start.walk.ready start.node row_deep (joined (the_rows fields)) (x_rooms (joined (the_rows fields)) struct_is) (t.by (the_rows fields)) (rw a at v.filled)))

-- The row under a null of a Struct.
gap_span : (s : List ℕ) (k : ℕ) → span (gap_row s k) ≡ 0
gap_span s k = cases (takes_bitmap (layout_of (code_of s k)))
  where
    cases : (b : Bool) → span (cond b null (fixed [])) ≡ 0
    cases true = refl
    cases false = refl

-- of another code it gives no child anything
gap_alone : (g : ℕ → Row → Rows) (s : List ℕ) (k : ℕ) → (code_of s k ≡ 38 → ⊥) → deeper g s k (gap_row s k) ≡ none
gap_alone g s k other = cases (takes_bitmap (layout_of (code_of s k)))
  where
    cases : (b : Bool) → deeper g s k (cond b null (fixed [])) ≡ none
    cases true = rw (ne_eqb (code_of s k) 38 other)
    cases false = refl

struct_takes : takes_bitmap (layout_of 38) ≡ true
unfolding layout_of entry_of entries
struct_takes = refl

-- of a Struct it gives each child the row under a null
gap_below : (g : ℕ → Row → Rows) (s : List ℕ) (k : ℕ) → code_of s k ≡ 38 → deeper g s k (gap_row s k) ≡ over_nodes (λ c. g c (gap_row s c)) (first_child s k) (child_count s k)
gap_below g s k is =
    let takes : takes_bitmap (layout_of (code_of s k)) ≡ true = rw is struct_takes in
    cases (takes_bitmap (layout_of (code_of s k))) takes
  where
    cases : (b : Bool) → b ≡ true → deeper g s k (cond b null (fixed [])) ≡ over_nodes (λ c. g c (gap_row s c)) (first_child s k) (child_count s k)
    cases true e = rw (eq-eqb (code_of s k) 38 is)
    cases false e = absurd (false≢true e)

module _ {s places : List ℕ} {f : State} {d k : ℕ} (ready : Ready s places f) (node : k < node_count s) (deep : 0 < d) (rooms : Rooms s places (gap_gives d s k) f) where
  pub gap_getting : Getting s places f k 0
  gap_getting = rw (gap_span s k) at (row_getting ready node deep (gap_row s k) rooms)

  pub gap_only : {f' : State} → (code_of s k ≡ 38 → ⊥) → Filled s places (own (gap_row s k) k) f f' → Filled s places (gap_gives d s k) f f'
  gap_only other t = leaf_filled ready node deep (gap_row s k) rooms (λ j. gap_alone (λ c q. gives (d - 1) s c q j) s k other) t

-- no depth is left, or some is
pub gap_zero : (s places : List ℕ) (f : State) (d k : ℕ) → d ≡ 0 → Filled s places (gap_gives d s k) f f
unfolding gives
gap_zero s places f d k e = rw e (filled_none (λ j lt. refl))

pub deep_told : {d : ℕ} → (d ≡ 0 → ⊥) → 0 < d
deep_told other = omega arith

-- the loop over the children
module _ {s places : List ℕ} {f mid : State} {d k first n : ℕ} (ready : Ready s places f) (node : k < node_count s) (deep : 0 < d) (rooms : Rooms s places (gap_gives d s k) f) (code : code_of s k ≡ 38) (starts : first ≡ first_child s k) (many : n ≡ child_count s k)
    (put : Filled s places (own (gap_row s k) k) f mid) where
  same_gaps : (j : ℕ) → deeper (λ c q. gives (d - 1) s c q j) s k (gap_row s k) ≡ over_nodes (λ c. gap_gives (d - 1) s c j) first n
  same_gaps j = gap_below (λ c q. gives (d - 1) s c q j) s k code ∙ rw (starts, many)

  pub gap_loop : GapsLeft s places (d - 1) first n mid mid 0
  gap_loop = gaps_start (ready_after ready put) (rooms_as (below_rooms ready node deep (gap_row s k) rooms put) (λ j lt. same_gaps j))

  pub gap_child : {i : ℕ} → i < n → first + i < node_count s
  unfolding child_end
  gap_child lt = omega (arith, starts, many, ((accepted s ready.accepted).node k node).tree.ends)

  pub gap_end : {f' : State} {i : ℕ} → GapsLeft s places (d - 1) first n mid f' i → n ≤ i → Filled s places (gap_gives d s k) f f'
  gap_end left le = row_filled ready node deep (gap_row s k) rooms put (filled_as (gaps_done left le) (λ j lt. sym (same_gaps j)))

-- The loop over a Struct's fields, from what its node holds then.
pub record FieldsLeft (s places b : List ℕ) (d k first n : ℕ) (mid f : State) (next : List ℕ) (i : ℕ) : Type 0 where
  pub going : Going (row_in (d - 1) s) (λ m q j. gives (d - 1) s m q j) s places first n (row_of_each (row_in (d - 1) s) (first_child s k) (child_count s k) (drop 1 b)) mid f next i

pub one_mark : {x : ℕ} → x ≡ 1 → x ≡ 0 → ⊥
one_mark a b = omega arith

module _ {s places b : List ℕ} {f mid : State} {d k first n : ℕ} (start : RowWalk s places b d k f) (layout : layout_of (code_of s k) ≡ Struct) (mark : byte_at b 0 ≡ 1) (starts : first ≡ first_child s k) (many : n ≡ child_count s k) (put : StructFilled s places k f mid) where
  pub fields_start : FieldsLeft s places b d k first n mid mid (drop 1 b) 0
  fields_start = record { going = struct_walk start (one_mark mark) layout put starts many }

  module _ {f' : State} {next : List ℕ} {i : ℕ} (g : FieldsLeft s places b d k first n mid f' next i) where
    pub field_walk : i < n → RowWalk s places next (d - 1) (first + i) f'
    unfolding child_end
    field_walk lt =
        record { node = omega (arith, starts, many, ((accepted s start.walk.ready.accepted).node k start.node).tree.ends); walk = going_row g.going lt }

    pub fields_done : n ≤ i → RowWalked s places b d k f f' next
    fields_done le = struct_walked start (one_mark mark) layout put starts (going_done g.going le)

module _ {s places b : List ℕ} {d k first n i : ℕ} {next : List ℕ} {mid f : State} (g : FieldsLeft s places b d k first n mid f next i) where
  pub field_more : {f' : State} {e : List ℕ} → i < n → RowWalked s places next (d - 1) (first + i) f f' e → FieldsLeft s places b d k first n mid f' e (i + 1)
  field_more lt v = record { going = going_more g.going lt v.done }

-- what a match on the layout tells
module _ (s : List ℕ) (k : ℕ) {l : Layout} where
  pub layout_told : {m : Layout} → l ≡ layout_of (code_of s k) → l ≡ m → layout_of (code_of s k) ≡ m
  layout_told e is = sym e ∙ is

  pub last_told : true ≡ last_arm l → l ≡ layout_of (code_of s k) → last_arm (layout_of (code_of s k)) ≡ true
  last_told last e = ap last_arm (sym e) ∙ sym last

-- A list and its rows, as code has its count and its child.
module _ {s places b : List ℕ} {f : State} {d k n : ℕ} (start : RowWalk s places b d k f) (e : layout_of (code_of s k) ≡ Lists) (mark : byte_at b 0 ≡ 1) (many : n ≡ number_at 4 b 1) where
  pub listed_getting : Getting s places f k n
  listed_getting = rw many (list_getting start (one_mark mark) e)

  pub listed_inside : 5 ≤ length b
  listed_inside = list_inside start (one_mark mark) e

  module _ {child : ℕ} (is : child ≡ first_child s k) {f' : State} (t : ListFilled s places k n f f') where
    as_read : ListFilled s places k (number_at 4 b 1) f f'
    as_read = rw many at t

    pub listed_walk : RowsWalk s places (drop 5 b) (d - 1) child n f'
    listed_walk = rw (is, many) (list_walk start (one_mark mark) e as_read)

    pub listed_walked : {f'' : State} {z : List ℕ} → RowsWalked s places (drop 5 b) (d - 1) child n f' f'' z → RowWalked s places b d k f f'' z
    listed_walked v = list_walked start (one_mark mark) e as_read (rw (is, many) at v)
