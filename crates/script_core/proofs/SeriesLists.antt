-- The series of a block as entries of a map, and as a list.
use Rattle.std.proofs.Common.{◌≡◌, ◌||◌, cond, List, [], ◌∷◌, map, refl, ap, is_some, Some}
use Rattle.std.specs.Ordering.{is_eq, match_ordering}
use Rattle.std.specs.declared.cmp.Ordering.{Ordering}
use Rattle.std.specs.declared.cmp.Ordering.TheVariants.{Less, Equal, Greater}
use Rattle.std.specs.BTreeMap.{insert_entry, is_at}
use Rattle.std.specs.Map.{lookup}
use Rattle.label_sets.specs.declared.label.Label.{Label}
use Rattle.label_sets.specs.declared.sample.Sample.{Sample}
use Rattle.label_sets.specs.Labels.{compare_sets}
use Rattle.script_core.specs.State.{series_of, has_series, insert_series}

has_series-cons : (key : List Label) (entry : List Label × List Sample) (entries : List (List Label × List Sample)) (o : Ordering) → is_some (lookup (is_at (compare_sets key)) entries) ≡ has_series (map series_of entries) key → is_some (cond (is_eq o) (Some entry.1) (lookup (is_at (compare_sets key)) entries)) ≡ (is_eq o || has_series (map series_of entries) key)
has_series-cons key entry entries Less later = later
has_series-cons key entry entries Equal later = refl
has_series-cons key entry entries Greater later = later

-- a key is found where its series is there
pub has_series_entries : (key : List Label) (entries : List (List Label × List Sample)) → is_some (lookup (is_at (compare_sets key)) entries) ≡ has_series (map series_of entries) key
has_series_entries key [] = refl
has_series_entries key (entry ∷ entries) =
    has_series-cons key entry entries (compare_sets key entry.0) (has_series_entries key entries)

insert_series-cons : (key : List Label) (samples : List Sample) (entry : List Label × List Sample) (entries : List (List Label × List Sample)) (o : Ordering) → map series_of (insert_entry compare_sets entries key samples) ≡ insert_series (map series_of entries) (series_of (key, samples)) → map series_of (match_ordering o ((key, samples) ∷ entry ∷ entries) ((entry.0, samples) ∷ entries) (entry ∷ insert_entry compare_sets entries key samples)) ≡ match_ordering o (series_of (key, samples) ∷ series_of entry ∷ map series_of entries) (record (series_of entry) { samples = samples } ∷ map series_of entries) (series_of entry ∷ insert_series (map series_of entries) (series_of (key, samples)))
insert_series-cons key samples entry entries Less later = refl
insert_series-cons key samples entry entries Equal later = refl
insert_series-cons key samples entry entries Greater later = ap (λ rest. series_of entry ∷ rest) later

-- an entry is put where its series is
pub insert_series_entries : (key : List Label) (samples : List Sample) (entries : List (List Label × List Sample)) → map series_of (insert_entry compare_sets entries key samples) ≡ insert_series (map series_of entries) (series_of (key, samples))
insert_series_entries key samples [] = refl
insert_series_entries key samples (entry ∷ entries) =
    insert_series-cons key samples entry entries (compare_sets key entry.0) (insert_series_entries key samples entries)
