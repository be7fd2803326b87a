-- What a table of handlers makes of messages is what it spells, and handling a message leaves it.
use Rattle.std.proofs.Common.{◌≡◌, ◌∙◌, List, [], ◌∷◌, ℕ, Bool, true, false, cond, Option, Some, None, refl, sym, ap}
use Rattle.std.specs.Prelude.{◌≢◌, find, map, option_map}
use Rattle.std.specs.Ordering.{is_eq, nat_cmp}
use Rattle.std.specs.declared.cmp.Ordering.{Ordering}
use Rattle.std.specs.declared.cmp.Ordering.TheVariants.{Less, Equal, Greater}
use Rattle.std.specs.Cmp.Lexicographic.{slice_cmp}
use Rattle.std.specs.BTreeMap.{BTreeMap, get, is_at}
use Rattle.std.specs.Map.{lookup}
use Rattle.std.proofs.lemmas.Map.Lookups.{exact_bytes}
use Rattle.std.proofs.lemmas.Map.Text.{is_eq-slice_cmp}
use Rattle.mega_schema.proofs.Naming.{same_other}
use Rattle.mega_handler.specs.Named.{Meaning, Meanings, meaning, meaning_of, same_name}
use Rattle.mega_meanings.specs.Means.{Means}
use Rattle.mega_meanings.specs.Tables.{made_in, spelled}

module _ {B : Type 0} (effect : B → Meaning) (queue : List ℕ) where
  abbrev found : List (List ℕ × B) → Option B
  found [] = None
  found (one ∷ entries) = cond (is_eq (slice_cmp nat_cmp queue one.0)) (Some one.1) (found entries)

  abbrev spells : List (List ℕ × B) → Meanings
  spells entries = map (λ (one : List ℕ × B). (one.0, effect one.1)) entries

  -- the test of an entry is that of its name
  test_is : (key : List ℕ) → same_name key queue ≡ is_eq (slice_cmp nat_cmp queue key)
  test_is key = same_other key queue ∙ sym (is_eq-slice_cmp queue key)

  by : (s t : Bool) (one : List ℕ × Meaning) (handler : B) (rest : Option (List ℕ × Meaning)) (others : Option B) → s ≡ t → one.1 ≡ effect handler → meaning_of rest ≡ option_map effect others
      → meaning_of (cond s (Some one) rest) ≡ option_map effect (cond t (Some handler) others)
  by true true one handler rest others test same is = ap Some same
  by false false one handler rest others test same is = is
  by true false one handler rest others test same is = cc
  by false true one handler rest others test same is = cc

  each : (entries : List (List ℕ × B)) → meaning (spells entries) queue ≡ option_map effect (found entries)
  each [] = refl
  each (one ∷ entries) =
      by (same_name one.0 queue) (is_eq (slice_cmp nat_cmp queue one.0)) (one.0, effect one.1) one.1 (find (λ (other : List ℕ × Meaning). same_name other.0 queue) (spells entries)) (found entries) (test_is one.0) refl (each entries)

  found_is : (entries : BTreeMap (List ℕ) B) → found entries.entries ≡ get (slice_cmp nat_cmp) entries queue
  found_is named = by_entries named.entries
    where
      by_entries : (entries : List (List ℕ × B)) → found entries ≡ lookup (is_at (slice_cmp nat_cmp queue)) entries
      by_entries [] = refl
      by_entries (one ∷ entries) = ap (λ (rest : Option B). cond (is_eq (slice_cmp nat_cmp queue one.0)) (Some one.1) rest) (by_entries entries)

pub spelled_means : {B : Type 0} (effect : B → Meaning) (named : BTreeMap (List ℕ) B) → Means (made_in effect named) (spelled effect named)
spelled_means effect named = record { each = λ queue. each effect queue named.entries ∙ ap (option_map effect) (found_is effect queue named) }

-- handling leaves the meaning of the queue, and all other queues
pub made_same : {B : Type 0} (effect : B → Meaning) (old new : BTreeMap (List ℕ) B) (queue : List ℕ)
    → option_map effect (get (slice_cmp nat_cmp) new queue) ≡ option_map effect (get (slice_cmp nat_cmp) old queue)
    → ((other : List ℕ) → slice_cmp nat_cmp queue other ≢ Equal → get (slice_cmp nat_cmp) new other ≡ get (slice_cmp nat_cmp) old other)
    → made_in effect new ≡ made_in effect old
made_same effect old new queue same others = λ i other. by other (slice_cmp nat_cmp queue other) refl i
  where
    by : (other : List ℕ) (o : Ordering) → slice_cmp nat_cmp queue other ≡ o → option_map effect (get (slice_cmp nat_cmp) new other) ≡ option_map effect (get (slice_cmp nat_cmp) old other)
    by other Less is = ap (option_map effect) (others other (λ e. let no : Less ≡ Equal = sym is ∙ e in cc))
    by other Equal is =
        ap (λ (q : List ℕ). option_map effect (get (slice_cmp nat_cmp) new q)) (sym (exact_bytes queue other is)) ∙ same
        ∙ ap (λ (q : List ℕ). option_map effect (get (slice_cmp nat_cmp) old q)) (exact_bytes queue other is)
    by other Greater is = ap (option_map effect) (others other (λ e. let no : Greater ≡ Equal = sym is ∙ e in cc))
