-- What the registry holds as a map from texts; registrations and drawing steps, before and after.
use Rattle.qrcode_core.proofs.Prelude.{ℕ, ◌≡◌, List, [], ◌∷◌, refl, ap, map, arith, AllZip, AllByRecursion, string_bytes, string_cmp, common_steps, ◌+◌, ◌++◌}
use Rattle.qrcode_core.proofs.Prelude.{Result, Err, ◌∙◌, take, length, map-append, PluginError, with_registrations, ◌<◌, Ok, get_or, StepsInOrder}
use Rattle.qrcode_core.specs.Plugins.{TextMap, text_cmp, text_entries, text_values, with_entry, at_key, key_texts}
use Rattle.qrcode_core.specs.Registries.{Registered, Registration, with_registration, Registers, RegistersBeginning}
use Rattle.qrcode_core.specs.Grids.{Grid}
use Rattle.std.proofs.Common.{Some, option_map, cond, String, add-one}
use Rattle.std.proofs.Math.Seq.{take-append-add, split_at, take-suc}
use Rattle.std.{specs.declared.cmp.Ordering.TheVariants.Less, specs.declared.alloc.Global.Global, specs.BTreeMap.insert_entry, specs.BTreeMap.is_at}
use Rattle.std.{specs.Map.lookup, specs.Map.keys_of, specs.List.Sorted.IsStrictlySortedBy, proofs.lemmas.List.take-append-le, proofs.lemmas.List.length-append}

-- ---- A tree of strings, read as a map from texts: what `insert` and `get` do to it

-- what `insert` makes of the entries
pub text_entries_insert : {V : Type 0} (es : List (String Global × V)) (k : String Global) (v : V) →
    text_entries (insert_entry string_cmp es k v) ≡ with_entry (text_entries es) (string_bytes k) v
text_entries_insert [] k v = refl
text_entries_insert (e ∷ es) k v = grind (arith, common_steps, text_entries_insert es k v)

-- what a look-up by a text finds
pub text_entries_lookup : {V : Type 0} (bs : List ℕ) (es : List (String Global × V)) →
    at_key (text_entries es) bs ≡ lookup (is_at (λ k. text_cmp bs (string_bytes k))) es
text_entries_lookup bs [] = refl
text_entries_lookup bs (e ∷ es) = ap (cond (is_at (text_cmp bs) (string_bytes e.0)) (Some e.1)) (text_entries_lookup bs es)

-- the same where the values are read as texts too
pub text_values_insert : (m : TextMap (String Global)) (k : List ℕ) (v : String Global) →
    text_values (with_entry m k v) ≡ with_entry (text_values m) k (string_bytes v)
text_values_insert [] k v = refl
text_values_insert (e ∷ es) k v = grind (arith, common_steps, text_values_insert es k v)

pub text_values_lookup : (bs : List ℕ) (m : TextMap (String Global)) → at_key (text_values m) bs ≡ option_map string_bytes (at_key m bs)
text_values_lookup bs [] = refl
text_values_lookup bs (e ∷ es) = grind (arith, common_steps, text_values_lookup bs es)

-- the names of a tree of strings
pub text_entries_keys : {V : Type 0} (es : List (String Global × V)) → map string_bytes (keys_of es) ≡ key_texts (text_entries es)
text_entries_keys [] = refl
text_entries_keys (e ∷ es) = ap (λ (ks : List (List ℕ)). string_bytes e.0 ∷ ks) (text_entries_keys es)

-- the same where the values are read as texts too
pub text_values_keys : (m : TextMap (String Global)) → key_texts (text_values m) ≡ key_texts m
text_values_keys [] = refl
text_values_keys (e ∷ es) = ap (λ (ks : List (List ℕ)). e.0 ∷ ks) (text_values_keys es)

-- a tree whose strings have the same bytes
pub text_values_clone : (es fs : List (String Global × String Global))
    → AllZip (λ p q. (string_bytes q.0 ≡ string_bytes p.0) × (string_bytes q.1 ≡ string_bytes p.1)) es fs
    → text_values (text_entries fs) ≡ text_values (text_entries es)
text_values_clone [] fs same = grind (arith, common_steps)
text_values_clone (e ∷ es) fs same = grind (arith, common_steps, text_values_clone es)

-- strings after one string, read as texts
texts_after : (k : String Global) (ks : List (String Global))
    → AllByRecursion (λ (y : String Global). string_cmp k y ≡ Less) ks
    → AllByRecursion (λ (bs : List ℕ). text_cmp (string_bytes k) bs ≡ Less) (map string_bytes ks)
texts_after k [] after = tt
texts_after k (x ∷ ks) after = (after.0, texts_after k ks after.1)

strings_sorted : (ks : List (String Global)) → IsStrictlySortedBy string_cmp ks → IsStrictlySortedBy text_cmp (map string_bytes ks)
unfolding IsStrictlySortedBy
strings_sorted [] sorted = tt
strings_sorted (k ∷ ks) sorted = (texts_after k ks sorted.0, strings_sorted ks sorted.1)

-- the names of strings in order are in order
pub texts_sorted : (names : List (List ℕ)) (ks : List (String Global))
    → names ≡ map string_bytes ks → IsStrictlySortedBy string_cmp ks → IsStrictlySortedBy text_cmp names
texts_sorted names ks are sorted = grind (arith, common_steps, strings_sorted)

-- the names of a tree of strings, in order
pub ruleset names_in_order = (text_entries_keys, text_values_keys, texts_sorted)

-- ---- Registrations before, and registrations after

module _ {R E P : Type 0} where
  -- the registrations of two lists, one after the other
  pub with_registrations_append : (s : Registered R E P) (xs ys : List (Registration R E P)) →
      with_registrations s (xs ++ ys) ≡ with_registrations (with_registrations s xs) ys
  with_registrations_append s [] ys = refl
  with_registrations_append s (x ∷ xs) ys = with_registrations_append (with_registration s x) xs ys

  -- an error in the second list, after all of the first
  pub beginning_after : (s m t : Registered R E P) (xs ys : List (Registration R E P)) → m ≡ with_registrations s xs → RegistersBeginning m ys t →
      RegistersBeginning s (xs ++ ys) t
  beginning_after s m t xs ys all (k, below, is) =
      (length xs + k, omega (arith, length-append xs ys), is ∙ cc (all, with_registrations_append s xs (take k ys), take-append-add xs ys k))

  -- all of two lists, one after the other
  pub registers_then : (s m t : Registered R E P) (xs ys : List (Registration R E P)) (r : Result Unit PluginError)
      → m ≡ with_registrations s xs → Registers m ys r t → Registers s (xs ++ ys) r t
  registers_then s m t xs ys r all later = grind (arith, with_registrations_append s xs ys, beginning_after s m t xs ys all)

  -- an error in the first of two lists
  pub registers_stops : (s t : Registered R E P) (xs ys : List (Registration R E P)) (e : PluginError)
      → Registers s xs (Err e) t → Registers s (xs ++ ys) (Err e) t
  registers_stops s t xs ys e h = grind (arith, common_steps, length-append, take-append-le)

  module _ {D : Type 0} (f : D → Registration R E P) where
    -- a loop that registers an item after those before it
    pub registers_more : (s m t : Registered R E P) (done : List D) (x : D)
        → m ≡ with_registrations s (map f done) → t ≡ with_registration m (f x) → t ≡ with_registrations s (map f (done ++ x ∷ []))
    registers_more s m t done x before now = grind (arith, common_steps, with_registrations_append, map-append)

    -- a loop in which an item fails
    pub registers_refused : (s m t : Registered R E P) (all done rest after : List D) (x : D) (e : PluginError)
        → all ≡ done ++ rest → rest ≡ x ∷ after → m ≡ with_registrations s (map f done) → Registers m (f x ∷ []) (Err e) t → Registers s (map f all) (Err e) t
    registers_refused s m t all done rest after x e split first before now =
        let later = registers_stops m t (f x ∷ []) (map f after) e now in
        rw (split, first, map-append) (registers_then s m t (map f done) (f x ∷ map f after) (Err e) before later)

-- an item goes over from what is left to what is done
pub moved_over : {D : Type 0} (all done rest after : List D) (x : D) → all ≡ done ++ rest → rest ≡ x ∷ after → all ≡ (done ++ x ∷ []) ++ after
moved_over all done rest after x split first = grind (arith, common_steps)

-- a loop that registers the items one by one
pub ruleset one_more_registered = (registers_more, moved_over)

-- ---- Steps before, and steps after

-- after steps that all succeed, the others go on from where those came to
pub steps_then : {B : Type 0} (step : B → Grid → Result Unit PluginError → Grid → Type 0) (xs ys : List B) (g m h : Grid) (r : Result Unit PluginError)
    → StepsInOrder step xs g (Ok tt) m → StepsInOrder step ys m r h → StepsInOrder step (xs ++ ys) g r h
steps_then step [] ys g m h r before after = grind (arith, common_steps)
steps_then step (x ∷ xs) ys g m h r before after = grind (arith, common_steps, steps_then step xs ys)

-- the step at index i fails, after all before it succeeded
pub steps_refused : {B : Type 0} (step : B → Grid → Result Unit PluginError → Grid → Type 0) (xs all : List B) (i : ℕ) (g m h : Grid) (b : B) (e : PluginError)
    (s r : Result Unit PluginError)
    → xs ≡ all → i < length xs → b ≡ get_or xs i b → s ≡ Err e → r ≡ Err e
    → StepsInOrder step (take i xs) g (Ok tt) m → step b m s h → StepsInOrder step all g r h
steps_refused step xs all i g m h b e s r same inside is was gives before refused = grind (arith, common_steps, split_at xs i b, steps_then step)

-- the step at index i succeeds, after all before it
pub steps_further : {B : Type 0} (step : B → Grid → Result Unit PluginError → Grid → Type 0) (xs : List B) (i : ℕ) (g m h : Grid) (b : B)
    (s : Result Unit PluginError)
    → i < length xs → b ≡ get_or xs i b → s ≡ Ok tt
    → StepsInOrder step (take i xs) g (Ok tt) m → step b m s h → StepsInOrder step (take (i + 1) xs) g (Ok tt) h
steps_further step xs i g m h b s inside is was before done = grind (arith, common_steps, add-one, take-suc, steps_then)
