-- What writes in one group leave of the rows of all groups.
use Rattle.std.proofs.Common.{◌≡◌, ℕ, cond, Bool, true, false, List, [], ◌∷◌, ◌++◌, refl, sym, ap, ◌∙◌, Some}
use Rattle.mega_entry.specs.declared.content.Write.{Write}
use Rattle.mega_index.specs.Rows.{Rows, same_key, changed, written}
use Rattle.mega_index.proofs.Turning.{same_key-Decides}
use Rattle.mega_two_laws.specs.World.{Text, same, at, World}
use Rattle.mega_two_laws.proofs.Names.{same_is, same_self}
use Rattle.mega_two_outcome_laws.specs.Shown.{Stores}
use Rattle.mega_two_outcome_laws.specs.Runs.{stores_with}

-- no write is under this key
abbrev pub Spare : List ℕ → List Write → Type 0
Spare key [] = Unit {0}
Spare key (write ∷ writes) = (write.key ≡ key → ⊥) × Spare key writes

pub spare_both : (key : List ℕ) (xs ys : List Write) → Spare key xs → Spare key ys → Spare key (xs ++ ys)
spare_both key [] ys x y = y
spare_both key (w ∷ xs) ys x y = (x.0, spare_both key xs ys x.1 y)

pub changed_other : (rows : Rows) (write : Write) (key : List ℕ) → (write.key ≡ key → ⊥) → changed rows write key ≡ rows key
changed_other rows write key other = by (same_key write.key key) refl
  where
    by : (b : Bool) → same_key write.key key ≡ b → cond b write.row (rows key) ≡ rows key
    by true is = absurd (other ((same_key-Decides write.key key).0 is))
    by false is = refl

pub changed_self : (rows : Rows) (write : Write) → changed rows write write.key ≡ write.row
changed_self rows write = ap (λ b. cond b write.row (rows write.key)) ((same_key-Decides write.key write.key).1 refl)

pub written_other : (writes : List Write) (rows : Rows) (key : List ℕ) → Spare key writes → written writes rows key ≡ rows key
written_other [] rows key spare = refl
written_other (w ∷ ws) rows key spare = written_other ws (changed rows w) key spare.1 ∙ changed_other rows w key spare.0

pub written_both : (xs ys : List Write) (rows : Rows) → written (xs ++ ys) rows ≡ written ys (written xs rows)
written_both [] ys rows = refl
written_both (w ∷ xs) ys rows = written_both xs ys (changed rows w)

-- ---- all groups

abbrev pub moved : List ℕ → Stores → List Write → Stores
moved group stores writes = stores_with group stores (Some writes)

pub moved_here : (group : List ℕ) (stores : Stores) (writes : List Write) → moved group stores writes group ≡ written writes (stores group)
moved_here group stores writes = ap (λ b. cond b (written writes (stores group)) (stores group)) (same_self group)

pub kept : (group : List ℕ) (stores : Stores) (writes : List Write) (other key : List ℕ) → (group ≡ other → Spare key writes) → moved group stores writes other key ≡ stores other key
kept group stores writes other key spare = by (same group other) refl
  where
    by : (b : Bool) → same group other ≡ b → cond b (written writes (stores group)) (stores other) key ≡ stores other key
    by true is =
        let here : group ≡ other = same_is group other is in
        written_other writes (stores group) key (spare here) ∙ ap (λ (g : List ℕ). stores g key) here
    by false is = refl

-- where only rows of this group are others
pub rows_moved : (group : List ℕ) (stores old after : Stores) → ((other : List ℕ) → same group other ≡ false → old other ≡ stores other) → ((other : List ℕ) → same group other ≡ false → after other ≡ stores other)
    → (other : List ℕ) → after other ≡ at group (after group) old other
rows_moved group stores old after before behind other = by (same group other) refl
  where
    by : (b : Bool) → same group other ≡ b → after other ≡ cond b (after group) (old other)
    by true is = ap after (sym (same_is group other is))
    by false is = behind other is ∙ sym (before other is)

pub at_away : {A : Type 0} (key : Text) (value : A) (old : Text → A) (other : Text) → same key other ≡ false → at key value old other ≡ old other
at_away key value old other is = ap (λ b. cond b value (old other)) is

-- ---- worlds that are equal at each place

pub record Alike (a b : World) : Type 0 where
  pub plans : (name : Text) → a.plans name ≡ b.plans name
  pub locks : (group : Text) → a.locks group ≡ b.locks group
  pub dones : (group name : Text) → a.dones group name ≡ b.dones group name
  pub rows : (group : Text) → a.rows group ≡ b.rows group

pub alike : (a b : World) → Alike a b → a ≡ b
alike a b e i = record { plans = λ name. e.plans name i; locks = λ group. e.locks group i; dones = λ group name. e.dones group name i; rows = λ group. e.rows group i }
