use Rattle.std.proofs.Common.{◌≡◌, refl, subst, true}
use Rattle.std.specs.Str.{is_utf8}
use Rattle.std.proofs.lemmas.Str.{is_utf8-from_IsUtf8}
use Rattle.index_parts.proofs.SameNames.{same_bytes}
use Rattle.index_parts.proofs.postings_table.row_of_fields.Goals as goal

pub row_of_same_name-requires-clause-same : goal.row_of_same_name-requires-clause-same
row_of_same_name-requires-clause-same c = same_bytes _ _ _ _ c.as_bytes.ensures.value c.eq.ensures c.if-eq.true

pub row_of_same_name-requires-clause-name : goal.row_of_same_name-requires-clause-name
row_of_same_name-requires-clause-name c = subst (λ n. is_utf8 n ≡ true) (same_bytes _ _ _ _ refl c.eq.ensures c.if-eq.true) (is_utf8-from_IsUtf8 _ c.as_bytes.ensures.utf8)
