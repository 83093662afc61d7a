-- Grounds 11 to 13 as the code tries them, and as the first of every call's. Assumes nothing.
use mathlib.Core.Path.{◌≡◌, refl, sym, ap, subst, ◌∙◌}
use mathlib.Core.Bool.{Bool, true, false, cond, not, ◌||◌}
use mathlib.Core.List.{List, [], ◌∷◌}
use Prim.Native.Nat.{ℕ, zero, suc, min, ◌≤◌, ◌<◌}
use native.Mathlib.Decide.{dec_le}
use native.Mathlib.Omega.{arith}
use lib.Dec.{ltb}
use lib.ListN.{length, take}
use borrow.Author.Tests.{lt-ltb, le-ltb}
use Rattle.std.specs.Prelude.{Result, Ok, Err}
use Rattle.logic.specs.declared.refusal.Refusal.{Refusal}
use Rattle.logic.specs.declared.refusal.Refusal.TheVariants.{BrokenTable, TableTooShort, MaskPortTooHigh}
use Rattle.logic.specs.Refusal.{refusal_number, answer_number}
use Rattle.logic.proofs.Refusals.{number-some}
use Rattle.logic.specs.Formula.{Plan, node_count}
use Rattle.logic.specs.Configuration.{Sets, in_masks, own_masks, all_within}
use Rattle.logic.specs.Cells.{own_cells}
use Rattle.logic.specs.Moves.{Ground, refusal}
use Rattle.logic.specs.Change.{some_of}
use Rattle.table_format.specs.Decode.{Decoded, broken, sound, decode}
use Rattle.table_format.proofs.Encoding.{decode-sound, one-plan}
use Rattle.table_format.proofs.Ready.{ready}
use Rattle.cells_walk.specs.inner.Root.{PlanIndex}
use Rattle.contracts.specs.State.{State, tables}
use Rattle.contracts.specs.Journal.{count_past}
use Rattle.contracts.specs.Call.{plan_grounds, table_grounds, tables_then, call_grounds, journal_grounds}
use Rattle.contracts.proofs.Calls.{LentEnough, count-past, count-within}
use Rattle.table_check.specs.declared.Info.{Info}
use Rattle.call_open.specs.inner.Opening.{cells_number, open_number, IndexedPlan, OpensCells, OpenPlan, Opens}

-- an accepted call has one value
value-or : {A : Type 0} → A → Result A Refusal → A
value-or a (Ok x) = x
value-or a (Err g) = a

pub ok-one : {A : Type 0} {a b : A} → ◌≡◌ {A = Result A Refusal} (Ok a) (Ok b) → a ≡ b
unfolding value-or
ok-one {A} {a} e = ap (value-or a) e

-- what the two cases of an answer say of its number
module _ {A : Type 0} {r : Result A Refusal} where
  pub refused-number : {g : Refusal} → r ≡ Err g → answer_number r ≡ refusal_number g
  unfolding answer_number
  refused-number e = ap answer_number e

  pub accepted-number : {x : A} → r ≡ Ok x → answer_number r ≡ 0
  unfolding answer_number
  accepted-number e = ap answer_number e

  -- a refused call has no value
  pub no-value : {g : Refusal} {x : A} → r ≡ Err g → r ≡ Ok x → ⊥
  no-value {g} e h = number-some g (sym (refused-number e) ∙ accepted-number h)

module _ (bytes : List ℕ) (shortest : ℕ) (x y z : List ℕ) where
  -- a ground opens nothing
  closes-cells : (g : Refusal) → refusal_number g ≡ cells_number (decode bytes) shortest → OpensCells bytes shortest (Err g) x y z
  closes-cells g q = record { number_is = refused-number {r = Err g} refl ∙ q; opens = λ o e. absurd (no-value {g = g} refl e) }

  pub cells-broken : decode bytes ≡ broken → OpensCells bytes shortest (Err BrokenTable) x y z
  unfolding cells_number plan_grounds refusal refusal_number
  cells-broken d = closes-cells BrokenTable (sym (ap (λ (w : Decoded). cells_number w shortest) d))

  module _ (P : Plan) (d : decode bytes ≡ sound P) where
    cells-number : (a : Bool) → ltb shortest (own_cells P) ≡ a → cells_number (decode bytes) shortest ≡ cond a 12 0
    unfolding cells_number plan_grounds refusal
    cells-number a h = ap (λ (w : Decoded). cells_number w shortest) d ∙ ap (λ (v : Bool). cond v 12 0) h

    pub cells-few : shortest < own_cells P → OpensCells bytes shortest (Err TableTooShort) x y z
    unfolding refusal_number
    cells-few l = closes-cells TableTooShort (sym (cells-number true (lt-ltb _ _ l)))

    pub cells_open : (o : Info) → o.ports ≡ P.ports → o.sets ≡ P.sets → o.nodes ≡ node_count P.formula → o.cells ≡ own_cells P → PlanIndex P x y z
        → own_cells P ≤ shortest → OpensCells bytes shortest (Ok o) x y z
    cells_open o u n k c i l = record {
      number_is = accepted-number {r = Ok o} refl ∙ sym (cells-number false (le-ltb _ _ l));
      opens = λ o' e. subst (λ (w : Info). IndexedPlan w bytes shortest x y z) (ok-one e) (record {
        plan = P;
        decodes = d;
        ports-are = u;
        sets-are = n;
        nodes-are = k;
        cells_are = c;
        indexed = i;
        own-cells = l;
      });
    }

-- the number of 11 to 13, by what each of them looks at
number_of : (bytes masks : List ℕ) (shortest : ℕ) (P : Plan) → decode bytes ≡ sound P → (a b w : Bool) → ltb (length masks) (own_masks P) ≡ a → ltb shortest (own_cells P) ≡ b
    → all_within P.ports (take (own_masks P) masks) ≡ w → open_number (decode bytes) masks shortest ≡ cond (a || (b || false)) 12 (cond (not w) 13 0)
unfolding open_number plan_grounds table_grounds refusal some_of
number_of bytes masks shortest P d a b w h k l =
    ap (λ (v : Decoded). open_number v masks shortest) d
    ∙ (λ i. cond (h i || (k i || false)) 12 (cond (not (l i)) 13 0))

module _ (bytes masks : List ℕ) (shortest : ℕ) (x y z : List ℕ) where
  closes : (g : Refusal) → refusal_number g ≡ open_number (decode bytes) masks shortest → Opens bytes masks shortest (Err g) x y z
  closes g q = record {
    number_is = refused-number {r = Err g} refl ∙ q;
    opens = λ o e. absurd (no-value {g = g} refl e);
    nodes-are = λ o e. absurd (no-value {g = g} refl e);
    cells_are = λ o e. absurd (no-value {g = g} refl e);
  }

  -- 11 and 12 of the cell tables stand first
  pub opens_not : (g : Refusal) → refusal_number g ≡ cells_number (decode bytes) shortest → Opens bytes masks shortest (Err g) x y z
  unfolding cells_number open_number plan_grounds table_grounds refusal some_of
  opens_not g e = closes g (same (decode bytes) (refusal_number g) (number-some g) e)
    where
      few : (a b c : Bool) (n : ℕ) → (n ≡ 0 → ⊥) → n ≡ cond a 12 0 → n ≡ cond (b || (a || false)) 12 (cond c 13 0)
      few true true c n q w = w
      few true false c n q w = w
      few false b c n q w = absurd (q w)

      same : (d : Decoded) (n : ℕ) → (n ≡ 0 → ⊥) → n ≡ cells_number d shortest → n ≡ open_number d masks shortest
      same broken n q w = w
      same (sound P) n q w = few (ltb shortest (own_cells P)) (ltb (length masks) (own_masks P)) (not (all_within P.ports (take (own_masks P) masks))) n q w

  module _ (P : Plan) (d : decode bytes ≡ sound P) where
    pub opens-few-masks : length masks < own_masks P → Opens bytes masks shortest (Err TableTooShort) x y z
    unfolding refusal_number
    opens-few-masks l = closes TableTooShort (sym (number_of bytes masks shortest P d true _ _ (lt-ltb _ _ l) refl refl))

    module _ (m : own_masks P ≤ length masks) (l : own_cells P ≤ shortest) where
      pub opens-not-within : all_within P.ports (take (own_masks P) masks) ≡ false → Opens bytes masks shortest (Err MaskPortTooHigh) x y z
      unfolding refusal_number
      opens-not-within w = closes MaskPortTooHigh (sym (number_of bytes masks shortest P d false false false (le-ltb _ _ m) (le-ltb _ _ l) w))

      pub opens-all : (o : Info) → o.ports ≡ P.ports → o.sets ≡ P.sets → o.nodes ≡ node_count P.formula → o.cells ≡ own_cells P → PlanIndex P x y z
          → all_within P.ports (take (own_masks P) masks) ≡ true → Opens bytes masks shortest (Ok o) x y z
      opens-all o u n k c i w = record {
        number_is = accepted-number {r = Ok o} refl ∙ sym (number_of bytes masks shortest P d false false true (le-ltb _ _ m) (le-ltb _ _ l) w);
        opens = λ o' e. subst (λ (v : Info). OpenPlan v.ports v.sets bytes masks shortest x y z) (ok-one e) (record {
          plan = P;
          decodes = d;
          ports-are = u;
          sets-are = n;
          indexed = i;
          own-masks = m;
          own-cells = l;
          within = w;
        });
        nodes-are = λ o' e Q q. sym (ap (λ (v : Info). v.nodes) (ok-one e)) ∙ k ∙ ap (λ (X : Plan). node_count X.formula) (same Q q);
        cells_are = λ o' e Q q. sym (ap (λ (v : Info). v.cells) (ok-one e)) ∙ c ∙ ap own_cells (same Q q);
      }
        where
          same : (Q : Plan) → decode bytes ≡ sound Q → P ≡ Q
          same Q e = one-plan bytes P Q (decode-sound bytes P d) (decode-sound bytes Q e)

-- open for the shortest of the cell tables, open for a longer one
pub open-longer : (ports sets : ℕ) (bytes masks : List ℕ) (shortest n : ℕ) (x y z : List ℕ) → OpenPlan ports sets bytes masks shortest x y z → shortest ≤ n
    → OpenPlan ports sets bytes masks n x y z
open-longer ports sets bytes masks shortest n x y z o l = record {
  plan = o.plan;
  decodes = o.decodes;
  ports-are = o.ports-are;
  sets-are = o.sets-are;
  indexed = o.indexed;
  own-masks = o.own-masks;
  own-cells = omega (arith, o.own-cells, l);
  within = o.within;
}

-- the tables that are open are long enough, and no own mask has a port of u or more
pub open-enough : (ports sets : ℕ) (bytes masks cells : List ℕ) (shortest : ℕ) (x y z : List ℕ) (o : OpenPlan ports sets bytes masks shortest x y z) → shortest ≤ length cells
    → LentEnough o.plan (tables masks cells)
open-enough ports sets bytes masks cells shortest x y z o l =
    record { masks-enough = o.own-masks; cells-enough = omega (arith, o.own-cells, l); within = o.within }

-- a plan has a cell, its root's, and a number of cells that 32 bits hold
pub root-cell : (bytes : List ℕ) (P : Plan) → decode bytes ≡ sound P → 0 < own_cells P
root-cell bytes P d = let r = ready bytes P (node_count P.formula) d refl in omega (arith, r.total)

pub few-cells : (bytes : List ℕ) (P : Plan) → decode bytes ≡ sound P → own_cells P < 4294967296
few-cells bytes P d = let r = ready bytes P (node_count P.formula) d refl in omega (arith, r.total, r.facts.few)

-- The length of the shortest of the cell tables that a call is lent: too short if one of them is.
pub Shortest : ℕ → List ℕ → Type 0
Shortest shortest lengths = (t : ℕ) → (ltb shortest t || false) ≡ some_of (λ l. ltb l t) lengths

pub one_table : (x : ℕ) → Shortest x (x ∷ [])
unfolding Shortest some_of
one_table x t = refl

pub two-tables : (x y : ℕ) → Shortest (min x y) (x ∷ y ∷ [])
unfolding Shortest some_of
two-tables x y t = go (dec_le t x) (dec_le t y)
  where
    go : Dec (t ≤ x) → Dec (t ≤ y) → (ltb (min x y) t || false) ≡ (ltb x t || (ltb y t || false))
    go (yes a) (yes b) = rw (le-ltb x t a, le-ltb y t b, le-ltb (min x y) t (omega arith))
    go (yes a) (no b) = rw (le-ltb x t a, lt-ltb y t (omega arith), lt-ltb (min x y) t (omega arith))
    go (no a) b = rw (lt-ltb x t (omega arith), lt-ltb (min x y) t (omega arith))

-- where no cells are lent, 12 applies to every plan
pub few-none : (bytes masks : List ℕ) (P : Plan) → decode bytes ≡ sound P → open_number (decode bytes) masks 0 ≡ 12
few-none bytes masks P d = number_of bytes masks 0 P d _ true _ refl (lt-ltb 0 (own_cells P) (root-cell bytes P d)) refl ∙ either (ltb (length masks) (own_masks P)) _
  where
    either : (a : Bool) (n : ℕ) → cond (a || (true || false)) 12 n ≡ 12
    either true n = refl
    either false n = refl

-- A call tries 11 to 13 first: its number is that of the opening, or that of its further grounds.
module _ (s : State) (shortest : ℕ) (lengths : List ℕ) (more : Plan → Sets → List Ground) (short : Shortest shortest (length s.cells ∷ lengths)) where
  first_three : (a b : Bool) (g : ℕ) → suc g ≡ cond a 12 (cond b 13 0) → (n : ℕ) → cond a 12 (cond b 13 n) ≡ suc g
  first_three true b g q n = sym q
  first_three false true g q n = sym q
  first_three false false g q n = absurd (omega arith)

  later : (a b : Bool) (n : ℕ) → ◌≡◌ {A = ℕ} (cond a 12 (cond b 13 0)) 0 → cond a 12 (cond b 13 n) ≡ n
  later true b n q = absurd (omega arith)
  later false true n q = absurd (omega arith)
  later false false n q = refl

  numbers : (P : Plan) → refusal (call_grounds (sound P) s lengths more)
      ≡ cond (ltb (length s.masks) (own_masks P) || (ltb shortest (own_cells P) || false)) 12
      (cond (not (all_within P.ports (take (own_masks P) s.masks))) 13 (refusal (more P (in_masks (take (own_masks P) s.masks)))))
  unfolding call_grounds tables_then plan_grounds table_grounds refusal Shortest
  numbers P =
      ap (λ (b : Bool). cond (ltb (length s.masks) (own_masks P) || b) 12
      (cond (not (all_within P.ports (take (own_masks P) s.masks))) 13 (refusal (more P (in_masks (take (own_masks P) s.masks))))))
      (sym (short (own_cells P)))

  pub shut-first : (d : Decoded) (g : ℕ) → suc g ≡ open_number d s.masks shortest → refusal (call_grounds d s lengths more) ≡ suc g
  unfolding open_number call_grounds tables_then plan_grounds table_grounds refusal some_of
  shut-first broken g h = sym h
  shut-first (sound P) g h =
      numbers P ∙ first_three (ltb (length s.masks) (own_masks P) || (ltb shortest (own_cells P) || false)) (not (all_within P.ports (take (own_masks P) s.masks))) g h (refusal (more P (in_masks (take (own_masks P) s.masks))))

  pub open-then : (P : Plan) → open_number (sound P) s.masks shortest ≡ 0
      → refusal (call_grounds (sound P) s lengths more) ≡ refusal (more P (in_masks (take (own_masks P) s.masks)))
  unfolding open_number plan_grounds table_grounds refusal some_of
  open-then P h = numbers P ∙ later (ltb (length s.masks) (own_masks P) || (ltb shortest (own_cells P) || false)) (not (all_within P.ports (take (own_masks P) s.masks))) (refusal (more P (in_masks (take (own_masks P) s.masks)))) h

-- What the code of a call is told of its grounds: their number is that of the opening, or else that of the further grounds.
pub record Tries (d : Decoded) (masks : List ℕ) (shortest : ℕ) (more : Plan → Sets → List Ground) (gs : List Ground) : Type 0 where
  pub shut : (g : ℕ) → suc g ≡ open_number d masks shortest → refusal gs ≡ suc g
  pub passed : (P : Plan) → d ≡ sound P → open_number d masks shortest ≡ 0 → refusal gs ≡ refusal (more P (in_masks (take (own_masks P) masks)))

-- the first of 11 to 13 that applies
pub shut : {d : Decoded} {masks : List ℕ} {shortest : ℕ} {more : Plan → Sets → List Ground} {gs : List Ground} → Tries d masks shortest more gs
    → (g : Refusal) → refusal_number g ≡ open_number d masks shortest → refusal gs ≡ refusal_number g
shut {gs = gs} t g q = go (refusal_number g) refl
  where
    go : (n : ℕ) → refusal_number g ≡ n → refusal gs ≡ refusal_number g
    go zero h = absurd (number-some g h)
    go (suc j) h = t.shut j (sym h ∙ q) ∙ sym h

-- over the tables alone
pub tries-tables : (d : Decoded) (s : State) (shortest : ℕ) (lengths : List ℕ) (more : Plan → Sets → List Ground) → Shortest shortest (length s.cells ∷ lengths)
    → Tries d s.masks shortest more (call_grounds d s lengths more)
tries-tables d s shortest lengths more short = record {
  shut = shut-first s shortest lengths more short d;
  passed = λ P e o. ap (λ (x : Decoded). refusal (call_grounds x s lengths more)) e
      ∙ open-then s shortest lengths more short P (ap (λ (x : Decoded). open_number x s.masks shortest) (sym e) ∙ o);
}

-- Over tables with a journal: where its record count is past, 12 applies, as it does if no cells are lent, of which no plan has so few.
pub tries-journal : (bytes : List ℕ) (s : State) (shortest : ℕ) (lengths : List ℕ) (more : Plan → Sets → List Ground) (room count : ℕ)
    → Shortest shortest (length s.cells ∷ lengths)
    → Tries (decode bytes) s.masks (cond (count_past room count) 0 shortest) more (journal_grounds (decode bytes) s room count lengths more)
tries-journal bytes s shortest lengths more room count short = go (count_past room count) refl
  where
    none : (d : Decoded) → decode bytes ≡ d → count_past room count ≡ true → open_number (decode bytes) s.masks 0 ≡ refusal (journal_grounds (decode bytes) s room count lengths more)
    none broken e h = unfold open_number journal_grounds plan_grounds refusal in
        ap (λ (x : Decoded). open_number x s.masks 0) e ∙ sym (ap (λ (x : Decoded). refusal (journal_grounds x s room count lengths more)) e)
    none (sound P) e h =
        few-none bytes s.masks P e ∙ sym (ap (λ (x : Decoded). refusal (journal_grounds x s room count lengths more)) e ∙ count-past P s room count lengths more h)

    go : (b : Bool) → count_past room count ≡ b → Tries (decode bytes) s.masks (cond b 0 shortest) more (journal_grounds (decode bytes) s room count lengths more)
    go true h = record {
      shut = λ g q. sym (none (decode bytes) refl h) ∙ sym q;
      passed = λ P e o. absurd (omega (arith, few-none bytes s.masks P e, o));
    }
    go false h =
        let t = tries-tables (decode bytes) s shortest lengths more short in
        let w = count-within (decode bytes) s room count lengths more h in
        record { shut = λ g q. w ∙ t.shut g q; passed = λ P e o. w ∙ t.passed P e o }
