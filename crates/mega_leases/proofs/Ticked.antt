-- What nodes and cells give one after another, and what a tick or a validate leads to.
use Rattle.std.proofs.Common.{◌≡◌, ℕ, zero, suc, ◌+◌, ◌-◌, ◌<◌, nat_le, List, [], ◌∷◌, ◌++◌, map, flat_map, filter, get_or, take, drop, refl, sym, ap, subst, ◌∙◌, arith, add_comm, append-nil, map-id}
use Rattle.std.specs.Prelude.{Option, Some, None, if◌then◌else◌}
use Rattle.std.specs.List.{range_with_len}
use Rattle.std.proofs.lemmas.List.{map-append}
use Rattle.std.proofs.lemmas.List.Concat.{flat_map-append}
use Rattle.std.proofs.lemmas.List.FromFn.{map-range_with_len_more}
use Rattle.mega_base.specs.declared.names.Epoch.{Epoch}
use Rattle.mega_locks.specs.History.{lapse_for, nodes}
use Rattle.mega_coordinator.specs.declared.answers.Ticked.{Ticked}
use Rattle.mega_coordinator.specs.History.{epoch_after, ticked}
use Rattle.mega_rules.specs.Met.{Met, Forgets, Ticks}
use Rattle.mega_rules.specs.Clock.{start_of}
use Rattle.mega_rules.specs.Members.{keep_of}
use Rattle.mega_rules.specs.Locks.{cell_calls, lapse_note}
use Rattle.mega_rules.specs.Coordinators.{coordinator_calls, forget_notes, is_cell_in, lost_note}
use Rattle.mega_rules.specs.Steps.{lapse_notes, lease_notes, onto}
use Rattle.mega_rules.specs.Operations.{Setting}
use Rattle.mega_leases.specs.declared.leases.Leases.{Leases}
use Rattle.mega_leases.specs.declared.numbers.Numbers.{Numbers}
use Rattle.mega_leases.specs.Numbers.{numbers_of}
use Rattle.mega_leases.specs.Notes.{forgotten_note, lapsed_notes, met_of}
use Rattle.mega_leases.specs.Tells.{Tells}
use Rattle.mega_leases.proofs.Noted.{lapses_show, leases_show}
use Rattle.mega_leases.proofs.Shown.{all_shown, both_show}

-- ---- the nine nodes, from the last and from the first
pub one_node_before : {A : Type 0} (f : ℕ → List A) (done : ℕ) → done < 9 → flat_map f (drop (9 - (done + 1)) nodes) ≡ f (9 - done) ++ flat_map f (drop (9 - done) nodes)
one_node_before f zero h = refl
one_node_before f (suc zero) h = refl
one_node_before f (suc (suc zero)) h = refl
one_node_before f (suc (suc (suc zero))) h = refl
one_node_before f (suc (suc (suc (suc zero)))) h = refl
one_node_before f (suc (suc (suc (suc (suc zero))))) h = refl
one_node_before f (suc (suc (suc (suc (suc (suc zero)))))) h = refl
one_node_before f (suc (suc (suc (suc (suc (suc (suc zero))))))) h = refl
one_node_before f (suc (suc (suc (suc (suc (suc (suc (suc zero)))))))) h = refl
one_node_before f (suc (suc (suc (suc (suc (suc (suc (suc (suc rest))))))))) h = absurd (omega arith)

take_one_node : (before : ℕ) → before < 9 → take (before + 1) nodes ≡ take before nodes ++ (before + 1) ∷ []
take_one_node zero h = refl
take_one_node (suc zero) h = refl
take_one_node (suc (suc zero)) h = refl
take_one_node (suc (suc (suc zero))) h = refl
take_one_node (suc (suc (suc (suc zero)))) h = refl
take_one_node (suc (suc (suc (suc (suc zero))))) h = refl
take_one_node (suc (suc (suc (suc (suc (suc zero)))))) h = refl
take_one_node (suc (suc (suc (suc (suc (suc (suc zero))))))) h = refl
take_one_node (suc (suc (suc (suc (suc (suc (suc (suc zero)))))))) h = refl
take_one_node (suc (suc (suc (suc (suc (suc (suc (suc (suc rest))))))))) h = absurd (omega arith)

pub one_node_more : {A : Type 0} (f : ℕ → List A) (before : ℕ) → before < 9 → flat_map f (take (before + 1) nodes) ≡ flat_map f (take before nodes) ++ f (before + 1)
one_node_more f before h =
    ap (flat_map f) (take_one_node before h) ∙ (flat_map-append f (take before nodes) ((before + 1) ∷ []) ∙ ap (λ more. flat_map f (take before nodes) ++ more) (append-nil (f (before + 1))))

-- the cells of a cluster
pub one_cell_more : (n : ℕ) → range_with_len 1 n ++ (n + 1) ∷ [] ≡ range_with_len 1 (n + 1)
one_cell_more n =
    ap (λ cells. cells ++ (n + 1) ∷ []) (sym (map-id (range_with_len 1 n)))
    ∙ (sym (map-range_with_len_more (λ k. k) 1 n (n + 1) (add_comm 1 n)) ∙ map-id (range_with_len 1 (n + 1)))

-- ---- notes as items of what was met
lapse_is : (node : ℕ) (lapsed : Option Epoch) → map met_of (lapsed_notes node lapsed) ≡ lapse_note node lapsed
lapse_is node None = refl
lapse_is node (Some epoch) = refl

pub lapses_are : (lapsed : List (Option Epoch)) (ns : List ℕ)
    → map met_of (flat_map (λ node. lapsed_notes node (get_or lapsed (node - 1) None)) ns) ≡ flat_map (λ node. lapse_note node (get_or lapsed (node - 1) None)) ns
lapses_are lapsed [] = refl
lapses_are lapsed (n ∷ ns) =
    map-append met_of (lapsed_notes n (get_or lapsed (n - 1) None)) (flat_map (λ node. lapsed_notes node (get_or lapsed (node - 1) None)) ns)
    ∙ (λ i. lapse_is n (get_or lapsed (n - 1) None) i ++ lapses_are lapsed ns i)

pub forgets_are : (epoch : Epoch) (cells : List ℕ) → map met_of (map (forgotten_note epoch) cells) ≡ map (λ cell. Forgets cell epoch) cells
forgets_are epoch [] = refl
forgets_are epoch (cell ∷ cells) = ap (λ more. Forgets cell epoch ∷ more) (forgets_are epoch cells)

-- ---- a tick
onto_append : (xs ys met : List Met) → onto (xs ++ ys) met ≡ onto ys (onto xs met)
onto_append [] ys met = refl
onto_append (x ∷ xs) ys met = onto_append xs ys (x ∷ met)

pub ticked_on : (s : Setting) (leases : Leases) (met : List Met) (now : ℕ) → Tells s.cluster s.me leases (Ticks now ∷ met)
    → Tells s.cluster s.me leases (onto (lapse_notes s met now) (onto (lease_notes s met now) (Ticks now ∷ met)))
ticked_on s leases met now tells =
    subst (λ (all : List Met). Tells s.cluster s.me leases all) (onto_append (lease_notes s met now) (lapse_notes s met now) (Ticks now ∷ met))
    (all_shown s.cluster s.me leases (lease_notes s met now ++ lapse_notes s met now) (Ticks now ∷ met)
    (both_show (lease_notes s met now) (lapse_notes s met now) (leases_show s met now) (lapses_show s met now)) refl tells)

-- ---- what a tick leads to, by what the parts answered
pub lease_notes_are : (s : Setting) (met : List Met) (now : ℕ) (numbers : Numbers) (epoch : Option Epoch) (told : Ticked) (notes : List Met)
    → numbers ≡ numbers_of s.cluster s.me → epoch ≡ epoch_after (start_of met) s.cluster.cells (coordinator_calls s.cluster met)
    → told ≡ ticked (start_of met) s.cluster.cells (coordinator_calls s.cluster met) now
    → notes ≡ (if numbers.full then forget_notes epoch (filter (is_cell_in told.forgot) (range_with_len 1 numbers.cells)) ++ lost_note told.lost else [])
    → notes ≡ lease_notes s met now
lease_notes_are s met now numbers epoch told notes numbers_are epoch_is told_is are =
    are ∙ (λ i. if (numbers_are i).full then forget_notes (epoch_is i) (filter (is_cell_in (told_is i).forgot) (range_with_len 1 (numbers_are i).cells)) ++ lost_note (told_is i).lost else [])

pub lapse_notes_are : (s : Setting) (met : List Met) (now : ℕ) (numbers : Numbers) (lapsed : List (Option Epoch)) (notes : List Met)
    → numbers ≡ numbers_of s.cluster s.me → lapsed ≡ map (lapse_for (cell_calls s.cluster s.me met) now (keep_of s.cluster)) nodes
    → notes ≡ (if nat_le numbers.me numbers.cells then flat_map (λ node. lapse_note node (get_or lapsed (node - 1) None)) nodes else [])
    → notes ≡ lapse_notes s met now
lapse_notes_are s met now numbers lapsed notes numbers_are lapsed_is are =
    are ∙ (λ i. if nat_le (numbers_are i).me (numbers_are i).cells then flat_map (λ node. lapse_note node (get_or (lapsed_is i) (node - 1) None)) nodes else [])
