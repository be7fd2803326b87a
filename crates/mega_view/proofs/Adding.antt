-- The range of keys in which the rows of a table in a group stand.
use Rattle.std.proofs.Common.{◌≡◌, ◌∙◌, ℕ, ◌+◌, List, [], ◌∷◌, ◌++◌, true, false, Some, sym, ap, arith}
use Rattle.std.proofs.lemmas.Bool.Decides.{nat_tests}
use Rattle.mega_disk.specs.VersionMaps.{IsWithin}
use Rattle.mega_schema.specs.declared.schema.Table.{Table}
use Rattle.mega_schema.specs.declared.schema.Schema.{Schema}
use Rattle.mega_schema.specs.Shaping.{space_of}
use Rattle.mega_index.specs.Fits.{numbered}
use Rattle.mega_view.specs.Keys.{IsNamed}
use Rattle.mega_view.specs.Scanning.{is_in, tail_of}
use Rattle.mega_view.proofs.RowKeys.{named_parts}
use Rattle.mega_view.proofs.Ranges.{in_range}

own_root : (root : ℕ) (tail : List ℕ) → is_in root (root ∷ tail) ≡ true
own_root root tail = grind (arith, nat_tests)

module _ (s : Schema) (n : ℕ) (t : Table) (group : List ℕ) (there : numbered s.tables n ≡ Some t) where
  pub within_table : (key : List ℕ) → IsNamed s group n key → IsWithin ((space_of n t ∷ tail_of group) ++ n ∷ []) ((space_of n t ∷ tail_of group) ++ (n + 1) ∷ []) key
  within_table key named =
      let parts = named_parts s n t group key there named in
      let same : parts.tail ≡ tail_of group = sym (ap tail_of parts.group_is) in
      in_range (space_of n t ∷ tail_of group) parts.rest key n (parts.key_is ∙ ap (λ (more : List ℕ). (space_of n t ∷ more) ++ n ∷ parts.rest) same)

  pub no_key : (key : List ℕ) → is_in t.root group ≡ false → IsNamed s group n key → ⊥
  no_key key none named =
      let parts = named_parts s n t group key there named in
      let both : true ≡ false = sym (own_root t.root parts.tail) ∙ ap (is_in t.root) (sym parts.group_is) ∙ none in
      cc
