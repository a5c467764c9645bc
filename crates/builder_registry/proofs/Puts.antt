-- What is written of the registry. Assumes nothing.
use Prim.Native.Nat.{ℕ, suc, ◌+◌, ◌-◌, ◌≤◌, ◌<◌}
use native.Mathlib.Omega.{arith}
use mathlib.Core.Path.{◌≡◌, refl, sym, ap, ap₂, ◌∙◌, subst}
use mathlib.Core.Bool.{Bool, true, false, cond}
use mathlib.Core.List.{List, [], ◌∷◌, ◌++◌, append_assoc}
use lib.ListN.{length, drop, get_or, set, length-append}
use lib.Seq.{set_comm}
use Rattle.std.specs.Prelude as std
use Rattle.std.specs.Prelude.{Some, None}
use Rattle.blocks.specs.Bytes.{bytes}
use Rattle.blocks.specs.Name.{Name, same}
use Rattle.blocks.specs.Tree.{Tree, name, num, nil, cons}
use Rattle.blocks.specs.Write.{write}
use Rattle.ir.specs.Ir.{IrParameter, unplaced}
use Rattle.ir.specs.Layout.{flag_tree, optional_tree, entries_tree, list_tree, parameter_tree}
use Rattle.wire.specs.Poke.{poke, Wrote, opened}
use Rattle.wire.proofs.Laws.{both, parts, no_parts, closed, bytes_length}
use Rattle.builder_names.proofs.Canonical.{with_end}
use Rattle.builder.specs.Names.{canonical_name}
use Rattle.builder.specs.Registry.{Entry, Registry, owner_parameters}
use Rattle.builder_registry.specs.declared.Made.{Made}
use Rattle.builder_registry.specs.Word.{owner_at, path_at, made_of, derived_of}
use Rattle.builder_registry.specs.Words.{held, entry_of, entries_of, entry_name}
use Rattle.builder_registry.specs.Texts.{made_end, made_text, describing}
use Rattle.builder_registry.specs.Place.{if_owned, owned}
use Rattle.builder_registry.proofs.Keys.{owner_is}
use Rattle.builder_registry.proofs.Names.{name_path, name_made, entry_short, described}
use Rattle.builder_registry.proofs.Places.{entries_from, entries_end}

-- ---- an entry's name

module _ {xs ys : List ℕ} {at r : ℕ} (s : List ℕ) (w : ℕ) where
  -- how far the write of an entry's name goes
  pub name_end : Wrote xs at (write (name (entry_name s w))) ys r → (at ≤ r) × (r ≤ at + 513)
  name_end f = let e = with_end (entry_name s w) f in (omega (arith, e.1), omega (arith, e.1, entry_short s w))

  -- m is what the word says of its made parameter, o its owner
  module _ {m : std.Option Made} (em : m ≡ made_of w) {o : Name} (e : o ≡ held s (owner_at w)) where
    -- a path: the canonical name was written
    pub name_puts_path : {p : Name} → p ≡ held s (path_at w) → m ≡ None → Wrote xs at (write (name (canonical_name o p))) ys r →
        Wrote xs at (write (name (entry_name s w))) ys r
    name_puts_path g z f = rw (name_path s w (sym em ∙ z), ← e, ← g) f

    -- a made parameter: the length, the owner and the end were written one behind the other
    pub name_puts_made : {us vs : List ℕ} {p q n : ℕ} {made : Made} {t : Name} → m ≡ Some made → t ≡ made_end made → n ≡ length (entry_name s w) →
        Wrote xs at (bytes 2 n) us p → Wrote us p (drop 0 o) vs q → Wrote vs q (drop 0 t) ys r →
        Wrote xs at (write (name (entry_name s w))) ys r
    unfolding write
    name_puts_made {made = made} z g l a b c =
        subst (λ (x : Name). Wrote xs at (bytes 2 (length (entry_name s w)) ++ x) ys r)
        (ap₂ (λ (x y : Name). x ++ y) e g ∙ sym (name_made s w made (sym em ∙ z)))
        (rw l at (both a (both b c)))

-- ---- an entry's description

module _ {xs ys : List ℕ} {at r : ℕ} {m : std.Option Made} where
  -- a path has no description: the flag 0
  pub puts_none : m ≡ None → Wrote xs at (write (num 1 0)) ys r → Wrote xs at (write (optional_tree name (describing m))) ys r
  puts_none e f = rw e (parts (num 1 0) nil f (no_parts ys r))

  -- a made parameter has one: the flag 1 and the text
  pub puts_some : {us : List ℕ} {p : ℕ} {made : Made} {t : Name} → m ≡ Some made → t ≡ made_text made → Wrote xs at (write (num 1 1)) us p →
      Wrote us p (write (name t)) ys r → Wrote xs at (write (optional_tree name (describing m))) ys r
  puts_some {t = t} e g a b = rw (e, ← g) (parts (num 1 1) (name t) a b)

-- ---- a parameter

-- a flag as `put_flag` writes it
flag_is : (b : Bool) → num 1 (cond b 1 0) ≡ flag_tree b
flag_is true = refl
flag_is false = refl

-- the parts of a parameter one behind the other, and its length, are its block
pub puts_parameter : {xs ks bs cs ds ys : List ℕ} {at p q u e v : ℕ} (s : List ℕ) (w : ℕ) {m : std.Option Made} (d : Bool) → m ≡ made_of w →
    d ≡ derived_of w → Wrote xs at (opened 162) ks p → Wrote ks p (write (name (entry_name s w))) bs q →
    Wrote bs q (write (optional_tree name (describing m))) cs u → Wrote cs u (write (num 1 (cond d 1 0))) ds e → Wrote ds at (bytes 4 (e - at - 4)) ys v →
    Wrote xs at (write (parameter_tree (entry_of s w).parameter)) ys e
unfolding entry_of
puts_parameter s w d em ed f g h i j =
    rw (described s w, ← flag_is (derived_of w))
    (closed unplaced 162 (cons (name (entry_name s w)) (cons (optional_tree name (describing (made_of w))) (cons (num 1 (cond (derived_of w) 1 0)) nil)))
    (both f (parts _ _ g (parts _ _ (rw em at h) (parts _ _ (rw ed at i) (no_parts _ _))))) j)

-- ---- the parameters of an owner

-- what an entry adds, where b says that the name at an offset is the owner's, and the offset is its word's
pub owned_is : (o : Name) (s : List ℕ) (w at : ℕ) (b : Bool) → b ≡ same o (held s at) → at ≡ owner_at w → if_owned b (entry_of s w) ≡ owned o (entry_of s w)
unfolding owned
owned_is o s w at b e f =
    ap (λ (t : Bool). if_owned t (entry_of s w)) (e ∙ ap (same o) (ap (held s) f ∙ sym (owner_is s w)))

module _ (s : List ℕ) (w : ℕ) (b : Bool) where
  -- what `put_one` writes for an entry of the owner
  pub puts_yes : {xs ys : List ℕ} {at r : ℕ} → b ≡ true → Wrote xs at (write (parameter_tree (entry_of s w).parameter)) ys r →
      Wrote xs at (write (entries_tree parameter_tree (if_owned b (entry_of s w)))) ys r
  unfolding entries_tree if_owned
  puts_yes h f = rw h (parts _ nil f (no_parts _ _))

  -- and for another
  pub puts_no : (xs : List ℕ) (at : ℕ) → b ≡ false → Wrote xs at (write (entries_tree parameter_tree (if_owned b (entry_of s w)))) xs at
  unfolding entries_tree if_owned
  puts_no xs at h = rw h (no_parts xs at)

  -- an entry of the owner is one parameter more
  pub counts_yes : (k : ℕ) → b ≡ true → k + 1 ≡ k + length (if_owned b (entry_of s w))
  unfolding if_owned
  counts_yes k h = rw h

  -- another is none
  pub counts_no : (k : ℕ) → b ≡ false → k ≡ k + length (if_owned b (entry_of s w))
  unfolding if_owned
  counts_no k h = rw h (omega arith)

-- the parameters of an owner are those of the first entry and of the others
owned_first : (o : Name) (e : Entry) (es : Registry) → owner_parameters o (e ∷ es) ≡ owned o e ++ owner_parameters o es
unfolding owner_parameters owned if_owned
owned_first o e es = go (same o e.owner)
  where
    go : (b : Bool) → cond b (e.parameter ∷ owner_parameters o es) (owner_parameters o es) ≡ cond b (e.parameter ∷ []) [] ++ owner_parameters o es
    go true = refl
    go false = refl

-- two lists of parameters are written one behind the other
entries_both : (f : IrParameter → Tree) (as' bs : List IrParameter) → write (entries_tree f (as' ++ bs)) ≡ write (entries_tree f as') ++ write (entries_tree f bs)
unfolding write entries_tree
entries_both f [] bs = refl
entries_both f (a ∷ as') bs =
    ap (λ (x : List ℕ). write (f a) ++ x) (entries_both f as' bs) ∙ sym (append_assoc (write (f a)) (write (entries_tree f as')) (write (entries_tree f bs)))

module _ (s ws : List ℕ) (n : ℕ) (fit : n ≤ length ws) (o : Name) (i : ℕ) where
  -- the parameters from the entry at i on
  next : i < n → owner_parameters o (drop i (entries_of s ws n)) ≡ owned o (entry_of s (get_or ws i 0)) ++ owner_parameters o (drop (i + 1) (entries_of s ws n))
  next h = ap (owner_parameters o) (entries_from s ws n fit i h) ∙ owned_first o (entry_of s (get_or ws i 0)) (drop (i + 1) (entries_of s ws n))

  -- from n on there are none
  last : n ≤ i → owner_parameters o (drop i (entries_of s ws n)) ≡ []
  unfolding owner_parameters
  last h = ap (owner_parameters o) (entries_end s ws n fit i h)

  -- a turn of the loop of `put_owned`: what it counts
  pub count_more : (k c r : ℕ) → i < n → k ≡ c + length (owner_parameters o (drop i (entries_of s ws n))) →
      r ≡ c + length (owned o (entry_of s (get_or ws i 0))) → k ≡ r + length (owner_parameters o (drop (i + 1) (entries_of s ws n)))
  count_more k c r h e f =
      omega (arith, ap length (next h), length-append (owned o (entry_of s (get_or ws i 0))) (owner_parameters o (drop (i + 1) (entries_of s ws n))))

  -- its end
  pub count_end : (k c : ℕ) → n ≤ i → k ≡ c + length (owner_parameters o (drop i (entries_of s ws n))) → c ≡ k
  count_end k c h e = omega (arith, ap length (last h))

  -- and what it writes
  pub put_more : {xs ys zs : List ℕ} {p q r : ℕ} → i < n → Wrote xs p (write (entries_tree parameter_tree (owned o (entry_of s (get_or ws i 0))))) ys q →
      Wrote ys q (write (entries_tree parameter_tree (owner_parameters o (drop (i + 1) (entries_of s ws n))))) zs r →
      Wrote xs p (write (entries_tree parameter_tree (owner_parameters o (drop i (entries_of s ws n))))) zs r
  put_more h f g = rw (next h, entries_both parameter_tree (owned o (entry_of s (get_or ws i 0))) (owner_parameters o (drop (i + 1) (entries_of s ws n)))) (both f g)

  -- its end
  pub put_end : (xs : List ℕ) (p : ℕ) → n ≤ i → Wrote xs p (write (entries_tree parameter_tree (owner_parameters o (drop i (entries_of s ws n))))) xs p
  unfolding entries_tree
  put_end xs p h = rw (last h) (no_parts xs p)

-- ---- the count, written last

-- a store behind a write may come first
set_behind : (xs : List ℕ) (i j x : ℕ) (cs : List ℕ) → i + length cs ≤ j → set (poke xs i cs) j x ≡ poke (set xs j x) i cs
unfolding poke
set_behind xs i j x [] h = refl
set_behind xs i j x (c ∷ cs) h = rw (set_behind (set xs i c) (suc i) j x cs (omega arith), set_comm xs i j c x (omega arith))

-- a write before another may come after it
poke_before : (xs : List ℕ) (i j : ℕ) (cs bs : List ℕ) → i + length cs ≤ j → poke (poke xs j bs) i cs ≡ poke (poke xs i cs) j bs
unfolding poke
poke_before xs i j cs [] h = refl
poke_before xs i j cs (b ∷ bs) h = rw (set_behind xs i j b cs h) (poke_before (set xs j b) i (suc j) cs bs (omega arith))

-- the parameters behind the place of their count, and then the count, are the list
pub counted_last : {xs ys zs : List ℕ} {at p r k : ℕ} (ps : List IrParameter) →
    Wrote xs (at + 2) (write (entries_tree parameter_tree ps)) ys r → Wrote ys at (bytes 2 k) zs p → k ≡ length ps →
    Wrote xs at (write (list_tree parameter_tree ps)) zs r
unfolding write
counted_last {xs} {ys} {zs} {at} {p} {r} {k} ps f g e =
    let l : length (bytes 2 k) ≡ 2 = bytes_length 2 k in
    let count : Wrote xs at (bytes 2 k) (poke xs at (bytes 2 k)) (at + 2) = record { end = rw l; left = refl } in
    let rest : Wrote (poke xs at (bytes 2 k)) (at + 2) (write (entries_tree parameter_tree ps)) zs r = record {
      end = f.end;
      left = g.left ∙ rw f.left (poke_before xs at (at + 2) (bytes 2 k) (write (entries_tree parameter_tree ps)) (omega arith));
    } in
    rw (← e) (both count rest)
