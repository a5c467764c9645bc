-- A path qualified by its owner's parent. Assumes nothing.
use Prim.Native.Nat.{ℕ, ◌+◌, ◌-◌, ◌<◌}
use native.Mathlib.Omega.{arith}
use mathlib.Core.Path.{◌≡◌, refl, sym, ap, ◌∙◌}
use mathlib.Core.Bool.{Bool, true, false, cond, ◌||◌}
use mathlib.Core.List.{[], ◌∷◌, ◌++◌, append_assoc}
use mathlib.Core.Option.{some, none}
use mathlib.Core.Option as math
use lib.ListN.{length, take, drop, length-append, take-append-drop}
use lib.Seq.{take_at, drop-length, length-take-le, take-append_seam, drop-append_seam}
use borrow.Author.Tests.{eq-eqb, le-leb}
use Rattle.blocks.specs.Name.{Name, ascii, same, among}
use Rattle.blocks.proofs.Name.{false_true, same_refl, same_eq}
use Rattle.builder.specs.Names.{is_empty, is_some, or_else, strip_prefix, strip_owner, normalize_path, rsplit_once, behind, qualify_parent_path, alias_unless, alternate_owner_aliases}
use Rattle.builder_names.specs.Views.{colons, colons_before, Parts, key_of, KeyParts}
use Rattle.std.specs.Prelude.{Some, None}
use Rattle.builder_names.specs.declared.Key.{Key}
use Rattle.builder_names.proofs.Strip.{none_some, normal_same, normal_strip, normal_rest, normal_whole, found_long, rest_part, same_iff, same_not, strip_got}

-- ---- a path behind a head

-- equal names with an equal head have equal rests
append_cancel : (h a b : Name) → h ++ a ≡ h ++ b → a ≡ b
append_cancel h a b e = sym (drop-append_seam h a) ∙ (ap (drop (length h)) e ∙ drop-append_seam h b)

module _ (h p n : Name) where
  -- `same_behind`: a name shorter than the head
  pub behind_short : length n < length h → false ≡ same (h ++ p) n
  behind_short l = same_not (h ++ p) n (λ q. let z : ⊥ = omega (arith, ap length q, length-append h p) in z)

  module _ (b : Bool) (e : b ≡ same (take (length h) n) h) where
    -- `same_behind`: a name that begins otherwise
    pub behind_other : b ≡ false → false ≡ same (h ++ p) n
    behind_other w =
        same_not (h ++ p) n
        (λ q. false_true (sym w ∙ (e ∙ (ap (λ (s : Name). same (take (length h) s) h) (sym q) ∙ (ap (λ (s : Name). same s h) (take-append_seam h p) ∙ same_refl h)))))

    -- `same_behind`: the rest is compared
    pub behind_rest : (t : Bool) → b ≡ true → t ≡ same p (take (length n - length h) (drop (length h) n)) → t ≡ same (h ++ p) n
    behind_rest t w f =
        let d : Name = drop (length h) n in
        let g : h ++ d ≡ n = ap (λ (s : Name). s ++ d) (sym (same_eq (take (length h) n) h (sym e ∙ w))) ∙ take-append-drop (length h) n in
        f ∙ (ap (same p) (rest_part n (length h)) ∙ same_iff p d (h ++ p) n (λ q. ap (λ (s : Name). h ++ s) q ∙ g) (λ q. append_cancel h p d (q ∙ sym g)))

pub ruleset behinds = (behind_short, behind_other, behind_rest)

-- a common head changes nothing in stripping
strip_both : (h p n : Name) → strip_prefix (h ++ p) (h ++ n) ≡ strip_prefix p n
unfolding strip_prefix
strip_both [] p n = refl
strip_both (x ∷ h) p n = rw (eq-eqb x x refl, strip_prefix) (strip_both h p n)

-- ---- the key of a path behind a head

module _ (h r p : Name) (b : Bool) (e : b ≡ same p r) where
  -- a common head changes nothing in comparing
  head_same : same (h ++ p) (h ++ r) ≡ b
  head_same = same_iff (h ++ p) (h ++ r) p r (append_cancel h p r) (ap (λ (s : Name). h ++ s)) ∙ sym e

  -- nor in stripping the owner
  head_strip : strip_owner (h ++ r) (h ++ p) ≡ strip_owner r p
  head_strip = ap (λ (s : Name). strip_prefix s (h ++ p)) (append_assoc h r (ascii ".")) ∙ strip_both h (r ++ ascii ".") p

  -- the path is the rest: the key is empty
  key_same : b ≡ true → normalize_path (h ++ r) (h ++ p) ≡ []
  key_same w = normal_same (h ++ r) (h ++ p) b (sym head_same) w ∙ drop-length (h ++ p)

  module _ (t : Bool) (f : t ≡ is_some (strip_owner r p)) (w : b ≡ false) where
    -- the path begins with the rest and a dot: the key is what stands behind them
    key_rest : t ≡ true → normalize_path (h ++ r) (h ++ p) ≡ drop (length r + 1) p
    key_rest g =
        normal_strip (h ++ r) (h ++ p) b (sym head_same) w ∙
        (ap (or_else (h ++ p)) head_strip ∙ (go (strip_owner r p) (sym f ∙ g) ∙ (sym (normal_strip r p b e w) ∙ normal_rest r p b e t w f g)))
      where
        go : (o : math.Option Name) → is_some o ≡ true → or_else (h ++ p) o ≡ or_else p o
        go none i = false_true i
        go (some x) i = refl

    -- it does not: the key is the whole path
    key_whole : t ≡ false → normalize_path (h ++ r) (h ++ p) ≡ h ++ p
    key_whole g = normal_whole (h ++ r) (h ++ p) b (sym head_same) t w (f ∙ ap is_some (sym head_strip)) g

-- ---- a path qualified by the owner's parent

-- the parts and the `::` between them are the name
pub split_whole : (s a b : Name) → rsplit_once s ≡ some (a, b) → s ≡ a ++ (ascii "::" ++ b)
unfolding rsplit_once
split_whole [] a b e = none_some e
split_whole (x ∷ xs) a b e = go (split_whole xs) (rsplit_once xs) refl
  where
    first_one : (t : math.Option Name) → strip_prefix (ascii "::") (x ∷ xs) ≡ t → behind t ≡ some (a, b) → x ∷ xs ≡ a ++ (ascii "::" ++ b)
    first_one none f g = none_some g
    first_one (some r) f g =
        let q : ◌≡◌ {A = Name × Name} ([], r) (a, b) = cc in
        let y : [] ≡ a = ap (λ (v : Name × Name). v.0) q in
        let z : r ≡ b = ap (λ (v : Name × Name). v.1) q in
        rw (← y, ← z) (strip_got (ascii "::") (x ∷ xs) r f)

    go : ((c d : Name) → rsplit_once xs ≡ some (c, d) → xs ≡ c ++ (ascii "::" ++ d)) → (t : math.Option (Name × Name)) →
        rsplit_once xs ≡ t → x ∷ xs ≡ a ++ (ascii "::" ++ b)
    go ih none f = first_one (strip_prefix (ascii "::") (x ∷ xs)) refl (rw (f, rsplit_once) at e)
    go ih (some q) f =
        let g : ◌≡◌ {A = math.Option (Name × Name)} (some (x ∷ q.0, q.1)) (some (a, b)) = rw (f, rsplit_once) at e in
        let v : ◌≡◌ {A = Name × Name} (x ∷ q.0, q.1) (a, b) = cc in
        let y : x ∷ q.0 ≡ a = ap (λ (u : Name × Name). u.0) v in
        let z : q.1 ≡ b = ap (λ (u : Name × Name). u.1) v in
        rw (← y, ← z) (ap (λ (l : Name). x ∷ l) (ih q.0 q.1 f))

module _ (s p : Name) where
  -- an owner without `::` has no parent
  pub key_none : Parts s None → qualify_parent_path s p ≡ none
  unfolding qualify_parent_path
  key_none w = rw w

  module _ (i : ℕ) (w : Parts s (Some i)) where
    -- the qualified path is the owner up to its last `::`, and the path
    qualify_some : qualify_parent_path s p ≡ some (take (i + 2) s ++ p)
    unfolding qualify_parent_path
    qualify_some = rw (w.1, front) (ap some (sym (append_assoc (take i s) (ascii "::") p)))
      where
        l : length (take i s ++ ascii "::") ≡ i + 2
        l = length-append (take i s) (ascii "::") ∙ ap (λ (m : ℕ). m + 2) (length-take-le i s (omega (arith, w.0)))

        front : take (i + 2) s ≡ take i s ++ ascii "::"
        front =
            ap (take (i + 2)) (split_whole s (take i s) (drop (i + 2) s) w.1 ∙
            sym (append_assoc (take i s) (ascii "::") (drop (i + 2) s))) ∙
            take_at (take i s ++ ascii "::") (drop (i + 2) s) (i + 2) l

    -- so its key is that of the path and the rest behind this head
    qualify_key : {k : Name} → normalize_path (take (i + 2) s ++ drop (i + 2) s) (take (i + 2) s ++ p) ≡ k →
        key_of s (qualify_parent_path s p) ≡ some k
    qualify_key f = ap (key_of s) qualify_some ∙
        ap some (ap (λ (o : Name). normalize_path o (take (i + 2) s ++ p)) (sym (take-append-drop (i + 2) s)) ∙ f)

    -- own is what stands behind that `::`
    module _ {own : Name} (eo : own ≡ drop (i + 2) s) {k : Key} where
      -- the answer of `qualified_key` where the path is that
      pub key_empty : true ≡ same p own → k.head.now ≡ [] → k.rest.now ≡ [] → KeyParts s p k
      key_empty h x y = record {
        head = (0, omega arith, x);
        rest = (length p, omega arith, y ∙ sym (drop-length p));
        key = rw (x, y) (qualify_key (key_same (take (i + 2) s) (drop (i + 2) s) p true (rw eo at h) refl));
      }

      -- where it begins with that and a dot, and r stands behind them
      pub key_behind : {r : Name} → false ≡ same p own → strip_owner own p ≡ some r → r ≡ drop (length own + 1) p → k.head.now ≡ [] →
          k.rest.now ≡ r → KeyParts s p k
      key_behind h e f x y =
          let found : is_some (strip_owner own p) ≡ true = ap is_some e in
          record {
            head = (0, omega arith, x);
            rest = (length own + 1, found_long own p found, y ∙ f);
            key = rw (x, y, f, eo) (qualify_key
                (key_rest (take (i + 2) s) (drop (i + 2) s) p false (rw eo at h) true (sym (rw eo at found)) refl refl));
          }

      -- and else
      pub key_joined : false ≡ same p own → strip_owner own p ≡ none → k.head.now ≡ take (i + 2) s → k.rest.now ≡ p → KeyParts s p k
      key_joined h e x y =
          let missing : is_some (strip_owner own p) ≡ false = ap is_some e in
          record {
            head = (i + 2, w.0, x);
            rest = (0, omega arith, y);
            key = rw (x, y)
                (qualify_key (key_whole (take (i + 2) s) (drop (i + 2) s) p false (rw eo at h) false (sym (rw eo at missing)) refl refl));
          }

-- ---- the alias of a path

-- a test alone
pub or_false : (b : Bool) → (b || false) ≡ b
or_false true = refl
or_false false = refl

-- a key that is the alias of a path has `::` before it there
alias_before : (p n k : Name) → among k (alternate_owner_aliases p n) ≡ true → colons_before (length k) p ≡ true
unfolding among alternate_owner_aliases colons_before
alias_before p n k e = go (rsplit_once p) refl e
  where
    -- where the path ends with `::` and the key
    there : (a : Name) → p ≡ a ++ (ascii "::" ++ k) → colons_before (length k) p ≡ true
    there a f =
        let l : length p ≡ length a + (length k + 2) = omega (arith, ap length f, length-append a (ascii "::" ++ k)) in
        let q : length p - (length k + 2) ≡ length a = omega arith in
        rw (le-leb (length k + 2) (length p) (omega arith), q) (ap (λ (x : Name). colons (drop (length a) x)) f ∙ ap colons (drop-append_seam a (ascii "::" ++ k)))

    all : (a d : Name) (t : Bool) → p ≡ a ++ (ascii "::" ++ d) → among k (cond (is_empty d || t) [] (d ∷ [])) ≡ true → colons_before (length k) p ≡ true
    all a [] t f g = false_true g
    all a (y ∷ ys) true f g = false_true g
    all a (y ∷ ys) false f g =
        there a (f ∙ ap (λ (x : Name). a ++ (ascii "::" ++ x)) (sym (same_eq k (y ∷ ys) (sym (or_false (same k (y ∷ ys))) ∙ g))))

    go : (t : math.Option (Name × Name)) → rsplit_once p ≡ t → among k (alias_unless n t) ≡ true → colons_before (length k) p ≡ true
    go none h g = false_true g
    go (some q) h g = all q.0 q.1 (same q.1 n) (split_whole p q.0 q.1 h) g

-- so without it the key is not the alias
pub not_alias : (h r p n : Name) → colons_before (length h + length r) p ≡ false → among (h ++ r) (alternate_owner_aliases p n) ≡ false
not_alias h r p n e = go (among (h ++ r) (alternate_owner_aliases p n)) refl
  where
    go : (t : Bool) → among (h ++ r) (alternate_owner_aliases p n) ≡ t → t ≡ false
    go true f = false_true (sym (ap (λ (k : ℕ). colons_before k p) (length-append h r) ∙ e) ∙ alias_before p n (h ++ r) f)
    go false f = refl
