-- The keys of a table, and its members.
use Rattle.std.proofs.Common.{◌≡◌, List, [], ◌∷◌, not, ◌||◌, refl, ap, String, Global, string_bytes}
use Rattle.std.specs.List.{list_any}
use Rattle.std.specs.Map.{keys_of}
use Rattle.toml.specs.View.{members_view}
use Rattle.toml.specs.declared.value.Value.{Value}
use Rattle.mega_cluster.specs.Header.{is_known, has_unknown_key}

pub unknown_keys : (es : List (String Global × Value)) → list_any (λ k. not (is_known (string_bytes k))) (keys_of es) ≡ has_unknown_key (members_view es)
unknown_keys [] = refl
unknown_keys (e ∷ es) = ap (λ b. not (is_known (string_bytes e.0)) || b) (unknown_keys es)
