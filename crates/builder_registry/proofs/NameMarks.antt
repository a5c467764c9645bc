-- The mark of an entry's name. Assumes nothing.
use Prim.Native.Nat.{ℕ, ◌<◌}
use native.Mathlib.Omega.{arith}
use Rattle.std.specs.Prelude.{Option, Some, None}
use mathlib.Core.Path.{◌≡◌, sym, ap, ap₂, ◌∙◌}
use mathlib.Core.List.{List}
use Rattle.blocks.specs.Name.{Name}
use Rattle.marks.specs.Mark.{mark_of}
use Rattle.marks.proofs.Marks.{mark_append}
use Rattle.builder.specs.Names.{canonical_name}
use Rattle.builder_registry.specs.Word.{owner_at, path_at, made_of}
use Rattle.builder_registry.specs.Words.{held, entry_name}
use Rattle.builder_registry.specs.Texts.{made_end}
use Rattle.builder_registry.specs.NameMarks.{OwnerMarked}
use Rattle.builder_registry.specs.declared.Made.{Made}
use Rattle.builder_registry.specs.declared.NameMark.{NameMark}
use Rattle.builder_registry.proofs.Names.{name_path, name_made}

-- the mark of an owner that is known
pub known_mark : {s : List ℕ} {k : NameMark} {at : ℕ} → OwnerMarked s k → at < 65536 → at ≡ k.owner → k.start ≡ mark_of 0 (held s at)
known_mark o l e = rw e (o.is (omega arith))

-- the mark of an entry's name: m is what the word says of its made parameter, h the mark of its owner, whose name stands at the offset
module _ (s : List ℕ) (w : ℕ) {m : Option Made} {at h : ℕ} (em : m ≡ made_of w) (ea : at ≡ owner_at w) (eh : h ≡ mark_of 0 (held s at)) where
  -- a path: the canonical name's mark, behind the owner's
  pub mark_path : {o p : Name} {r : ℕ} → o ≡ held s at → p ≡ held s (path_at w) → m ≡ None →
      ((g : ℕ) → h ≡ mark_of g o → r ≡ mark_of g (canonical_name o p)) → r ≡ mark_of 0 (entry_name s w)
  mark_path f g z k =
      k 0 (rw f eh)
      ∙ ap (mark_of 0) (ap₂ canonical_name (f ∙ ap (held s) ea) g ∙ sym (name_path s w (sym em ∙ z)))

  -- a made parameter: the end's mark, behind the owner's
  pub mark_made : {made : Made} {t : Name} {r : ℕ} → t ≡ made_end made → m ≡ Some made → r ≡ mark_of h t → r ≡ mark_of 0 (entry_name s w)
  mark_made {made} f z k =
      k
      ∙ ap₂ mark_of (eh ∙ ap (λ (a : ℕ). mark_of 0 (held s a)) ea) f
      ∙ sym (mark_append 0 (held s (owner_at w)) (made_end made))
      ∙ ap (mark_of 0) (sym (name_made s w made (sym em ∙ z)))

pub ruleset name_marks = (mark_path, mark_made)
