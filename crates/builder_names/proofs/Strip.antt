-- An owner stripped from a path, equal names, and the end of a name. Assumes nothing.
use Rattle.wire.proofs.Names.{same_long, pointwise_same}
use Prim.Native.Nat.{ℕ, zero, suc, ◌+◌, ◌-◌, ◌≤◌, ◌<◌}
use native.Mathlib.Omega.{arith}
use native.Mathlib.Numerals.{add-one}
use mathlib.Core.Path.{◌≡◌, refl, sym, ap, ap₂, ◌∙◌}
use mathlib.Core.Bool.{Bool, true, false, ◌||◌}
use mathlib.Core.List.{[], ◌∷◌, ◌++◌, append_assoc}
use mathlib.Core.Option.{some, none}
use mathlib.Core.Option as math
use Rattle.std.specs.Prelude.{Option, Some, None, unwrap_or}
use denote.Ref.{Bor}
use lib.Dec.{eqb}
use lib.ListN.{length, take, drop, get_or, length-append, length-drop}
use lib.Seq.{split_at, take_at, get_or_at, take_all, drop-append_seam, drop-length}
use borrow.Author.Tests.{eq-eqb, eqb-true, leb-true, leb-false}
use Rattle.std.specs.Prelude.{leb, nat_eq}
use Rattle.std.specs.Cmp.Lexicographic.{pointwise}
use Rattle.blocks.specs.Name.{Name, ascii, same}
use Rattle.blocks.proofs.Name.{false_true, same_refl, same_eq}
use Rattle.builder.specs.Names.{is_some, or_else, strip_prefix, strip_owner, normalize_path, ends_with}
use Rattle.builder_names.specs.Views.{Stripped, dotted}

-- ---- a name that begins with another

-- something is not nothing
pub none_some : {A X : Type 0} {x : A} → none ≡ some x → X
none_some e = false_true (ap is_some e)

-- what was put before a rest is stripped from it
pub strip_put : (p r : Name) → strip_prefix p (p ++ r) ≡ some r
unfolding strip_prefix
strip_put [] r = refl
strip_put (x ∷ p) r = rw (eq-eqb x x refl, strip_prefix) (strip_put p r)

-- a rest that was given stands behind the prefix
pub strip_got : (p n r : Name) → strip_prefix p n ≡ some r → n ≡ p ++ r
unfolding strip_prefix
strip_got [] n r e = cc
strip_got (x ∷ p) [] r e = none_some e
strip_got (x ∷ p) (y ∷ n) r e = go (strip_got p n r) (eqb x y) refl e
  where
    go : (strip_prefix p n ≡ some r → n ≡ p ++ r) → (b : Bool) → eqb x y ≡ b →
        elim b [ true ↦ strip_prefix p n | false ↦ none ] ≡ some r → ◌≡◌ {A = Name} (y ∷ n) (x ∷ (p ++ r))
    go ih true h g = ap₂ (λ (a : ℕ) (as' : Name). a ∷ as') (sym (eqb-true x y h)) (ih g)
    go ih false h g = none_some g

-- nothing is given where no name of this prefix is the name
pub strip_none : (p n : Name) → ((r : Name) → n ≡ p ++ r → ⊥) → strip_prefix p n ≡ none
strip_none p n k = go (strip_prefix p n) refl
  where
    go : (t : math.Option Name) → strip_prefix p n ≡ t → t ≡ none
    go none h = refl
    go (some r) h = absurd (k r (strip_got p n r h))

-- a prefix that was found
pub prefix_is : (p n : Name) → is_some (strip_prefix p n) ≡ true → n ≡ p ++ drop (length p) n
prefix_is p n e = go (strip_prefix p n) refl e
  where
    go : (t : math.Option Name) → strip_prefix p n ≡ t → is_some t ≡ true → n ≡ p ++ drop (length p) n
    go none h g = false_true g
    go (some r) h g = let q : n ≡ p ++ r = strip_got p n r h in q ∙ ap (λ (x : Name). p ++ x) (sym (ap (drop (length p)) q ∙ drop-append_seam p r))

-- and then the rest is the name behind it
pub prefix_some : (p n : Name) → is_some (strip_prefix p n) ≡ true → strip_prefix p n ≡ some (drop (length p) n)
prefix_some p n e = ap (strip_prefix p) (prefix_is p n e) ∙ strip_put p (drop (length p) n)

-- ---- two names with a dot between them

-- how long both are with the dot
pub dot_length : (a b : Name) → length (dotted a b) ≡ length a + suc (length b)
unfolding dotted
dot_length a b = length-append a (0x2E ∷ b)

-- the first of the two stands at the start
pub dot_take : (a b : Name) → take (length a) (dotted a b) ≡ a
unfolding dotted
dot_take a b = take_at a (0x2E ∷ b) (length a) refl

-- the dot stands behind the first
pub dot_at : (a b : Name) → get_or (dotted a b) (length a) 0 ≡ 0x2E
unfolding dotted
dot_at a b = get_or_at a 0x2E b 0 (length a) refl

-- ---- stripping an owner

-- stripping the owner gives back the rest
strip_dot : (o r : Name) → strip_owner o (dotted o r) ≡ some r
unfolding dotted
strip_dot o r = ap (strip_prefix (o ++ ascii ".")) (sym (append_assoc o (ascii ".") r)) ∙ strip_put (o ++ ascii ".") r

-- a dot behind the owner, and the owner before it
pub strip_at : (o p : Name) → length o < length p → get_or p (length o) 0 ≡ 0x2E → take (length o) p ≡ o → p ≡ dotted o (drop (length o + 1) p)
unfolding dotted
strip_at o p h d e = split_at p (length o) 0 h ∙ rw (e, d, add-one)

-- an owner that was found
pub found_is : (o p : Name) → is_some (strip_owner o p) ≡ true → p ≡ dotted o (drop (length o + 1) p)
unfolding dotted
found_is o p e =
    prefix_is (o ++ ascii ".") p e ∙
    (ap (λ (k : ℕ). (o ++ ascii ".") ++ drop k p) (length-append o (ascii ".")) ∙ append_assoc o (ascii ".") (drop (length o + 1) p))

-- a path that begins with its owner is longer than it
pub found_long : (o p : Name) → is_some (strip_owner o p) ≡ true → length o + 1 ≤ length p
found_long o p e = omega (arith, ap length (found_is o p e), dot_length o (drop (length o + 1) p))

-- a path that is none such: it is not
not_found : (o p : Name) → ((r : Name) → p ≡ dotted o r → ⊥) → strip_owner o p ≡ none
unfolding dotted
not_found o p k = strip_none (o ++ ascii ".") p (λ r e. k r (e ∙ append_assoc o (ascii ".") r))

-- ---- equal names

-- two tests agree where the equations that they decide do
pub same_iff : (a b c d : Name) → (a ≡ b → c ≡ d) → (c ≡ d → a ≡ b) → same a b ≡ same c d
same_iff a b c d f g = go (same a b) refl (same c d) refl
  where
    go : (t : Bool) → same a b ≡ t → (u : Bool) → same c d ≡ u → t ≡ u
    go true h true k = refl
    go true h false k = sym (ap (λ (x : Name). same x d) (f (same_eq a b h)) ∙ same_refl d) ∙ k
    go false h true k = sym h ∙ (ap (λ (x : Name). same x b) (g (same_eq c d k)) ∙ same_refl b)
    go false h false k = refl

-- unequal names are not the same
pub same_not : (a b : Name) → (a ≡ b → ⊥) → false ≡ same a b
same_not a b k = go (same a b) refl
  where
    go : (t : Bool) → same a b ≡ t → false ≡ t
    go true h = absurd (k (same_eq a b h))
    go false h = refl

-- the part from a place to the end
pub rest_part : (s : Name) (k : ℕ) → take (length s - k) (drop k s) ≡ drop k s
rest_part s k = take_all (length s - k) (drop k s) (omega (arith, length-drop k s))

-- ---- stripping an owner in the form in which the code has it

module _ (o p : Name) where
  -- a dot behind the owner, and the owner before it
  pub strip_here : length o < length p → get_or p (length o) 0 ≡ 0x2E → same (take (length o) p) o ≡ true →
      strip_owner o p ≡ some (drop (length o + 1) p)
  strip_here h d e = ap (strip_owner o) (strip_at o p h d (same_eq (take (length o) p) o e)) ∙ strip_dot o (drop (length o + 1) p)

  -- a path no longer than the owner
  pub strip_short : length p ≤ length o → strip_owner o p ≡ none
  strip_short h = not_found o p (λ r e. omega (arith, ap length e, dot_length o r))

  -- a path with another byte than a dot behind the owner
  pub strip_other : (get_or p (length o) 0 ≡ 0x2E → ⊥) → strip_owner o p ≡ none
  strip_other k = not_found o p (λ r e. k (ap (λ (s : Name). get_or s (length o) 0) e ∙ dot_at o r))

  -- a path that begins otherwise
  pub strip_unlike : same (take (length o) p) o ≡ false → strip_owner o p ≡ none
  strip_unlike q =
      not_found o p
      (λ r f. false_true (sym q ∙ (ap (λ (s : Name). same (take (length o) s) o) f ∙
      (ap (λ (s : Name). same s o) (dot_take o r) ∙ same_refl o))))

  module _ (b : Bool) (e : b ≡ same p o) where
    -- the path is the owner: the normal path is empty
    pub normal_same : b ≡ true → normalize_path o p ≡ drop (length p) p
    unfolding normalize_path
    normal_same h = let q : same p o ≡ true = sym e ∙ h in rw (q, drop-length p)

    -- else it is what stripping the owner gives, or the path
    pub normal_strip : b ≡ false → normalize_path o p ≡ or_else p (strip_owner o p)
    unfolding normalize_path
    normal_strip h = let q : same p o ≡ false = sym e ∙ h in rw q

    -- where the owner is found, the path behind it and the dot
    pub normal_rest : (t : Bool) → b ≡ false → t ≡ is_some (strip_owner o p) → t ≡ true → normalize_path o p ≡ drop (length o + 1) p
    normal_rest t h f g =
        let r : Name = drop (length o + 1) p in
        normal_strip h ∙ ap (or_else p) (ap (strip_owner o) (found_is o p (sym f ∙ g)) ∙ strip_dot o r)

    -- where it is not, the path itself
    pub normal_whole : (t : Bool) → b ≡ false → t ≡ is_some (strip_owner o p) → t ≡ false → normalize_path o p ≡ drop 0 p
    normal_whole t h f g = normal_strip h ∙ go (strip_owner o p) (sym f ∙ g)
      where
        go : (u : math.Option Name) → is_some u ≡ false → or_else p u ≡ p
        go none q = refl
        go (some r) q = false_true (sym q)

-- what was stripped, or else the path
pub rest_else : (o : Name) (r : Option (Bor Name)) (d : Bor Name) → Stripped o d.now r →
    (unwrap_or r d).now ≡ or_else d.now (strip_owner o d.now)
rest_else o None d e = rw e
rest_else o (Some x) d e = rw e.0

-- it is no longer than the path
pub stripped_fits : (o : Name) (r : Option (Bor Name)) (d : Bor Name) → Stripped o d.now r → length (unwrap_or r d).now ≤ length d.now
stripped_fits o None d e = omega arith
stripped_fits o (Some x) d e = omega (arith, ap length e.1, length-drop (length o + 1) d.now)

-- the answer of `normalize_path`
pub normal_else : (o : Name) (r : Option (Bor Name)) (d : Bor Name) → same d.now o ≡ false → Stripped o d.now r →
    (unwrap_or r d).now ≡ normalize_path o d.now
normal_else o r d e w = rest_else o r d w ∙ sym (normal_strip o d.now false (sym e) refl)

-- its answer where the path is the owner
pub normal_empty : (o p : Name) → same p o ≡ true → [] ≡ normalize_path o p
unfolding normalize_path
normal_empty o p e = rw e

pub ruleset strips = (strip_here, strip_short, strip_other, strip_unlike, rest_part)

pub ruleset normals = (normal_else, normal_empty)

-- ---- the end of a name

-- a name shorter than the end does not end with it
pub ends_short : (e s : Name) → length s < length e → false ≡ ends_with e s
unfolding ends_with
ends_short e [] h = same_long [] e (λ q. let z : ⊥ = omega arith in z)
ends_short e (x ∷ xs) h =
    let f : same (x ∷ xs) e ≡ false = sym (same_long (x ∷ xs) e (λ q. let z : ⊥ = omega arith in z)) in
    rw (f, ← ends_short e xs (omega arith))

-- the last bytes of the name, as many as the end has, decide
ends_drop : (e s : Name) (k : ℕ) → length s ≡ k + length e → same (drop k s) e ≡ ends_with e s
unfolding ends_with
ends_drop e [] zero h = refl
ends_drop e [] (suc k) h = absurd (let z : ⊥ = omega arith in z)
ends_drop e (x ∷ xs) zero h = go (same (x ∷ xs) e)
  where
    f : false ≡ ends_with e xs
    f = ends_short e xs (omega arith)

    go : (t : Bool) → t ≡ (t || ends_with e xs)
    go true = refl
    go false = f
ends_drop e (x ∷ xs) (suc k) h =
    let f : same (x ∷ xs) e ≡ false = sym (same_long (x ∷ xs) e (λ q. let z : ⊥ = omega arith in z)) in
    rw f (ends_drop e xs k (omega arith))

-- the answer of the library's `ends_with`
pub ends_is : (e s : Name) → pointwise nat_eq e (drop (length s - length e) s) ≡ ends_with e s
ends_is e s = pointwise_same e (drop (length s - length e) s) ∙ go (leb (length e) (length s)) refl
  where
    go : (b : Bool) → leb (length e) (length s) ≡ b → same (drop (length s - length e) s) e ≡ ends_with e s
    go true h = ends_drop e s (length s - length e) (omega (arith, leb-true _ _ h))
    go false h =
        let g : length s < length e = leb-false _ _ h in
        let k : length s - length e ≡ 0 = omega arith in
        rw k (sym (same_long s e (λ q. let z : ⊥ = omega arith in z)) ∙ ends_short e s g)
