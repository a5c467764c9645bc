-- The theorem: a layout that was built is not refused by 3 where it is read.
use Prim.Native.Nat.{ℕ, ◌≤◌}
use mathlib.Core.Path.{◌≡◌, refl, sym}
use mathlib.Core.Bool.{Bool, true, false, ◌&&◌}
use mathlib.Core.List.{List}
use lib.Dec.{leb}
use lib.ListN.{length}
use borrow.Author.Tests.{leb-true, leb-false}
use Rattle.errors.specs.Refusal.{Refusal, Outcome, done, refused, ◌>>=◌, ask, answered, plain}
use Rattle.errors.proofs.Laws.{not_done}
use Rattle.blocks.specs.Tree.{Tree}
use Rattle.blocks.specs.Read.{read_set, read_layout}
use Rattle.blocks.specs.Write.{write}
use Rattle.resolved.specs.Set.{types_of}
use Rattle.ir.specs.Ir.{TypeIr}
use Rattle.ir.specs.Layout.{layout_tree}
use Rattle.builder.specs.Build.{build_types, write_layout}
use Rattle.compat.proofs.Shapes.{shaped}
use Rattle.builder_texts.specs.Unheld.{Unheld}
use Rattle.builder_texts.proofs.Written.{texts_written}
use Rattle.builder_texts.proofs.Passing.{never_3, input_passes}

module _ (set : List ℕ) (t : Tree) (ts : List TypeIr) (read : read_set set ≡ done t) (built : build_types (types_of t) 0 (types_of t) ≡ done ts) where
  -- The layout that is built from a set that was read, if it has at most 65,536 bytes, is not refused by 3 where it is read.
  pub layout_not_3 : length (write (layout_tree ts)) ≤ 65536 → (r : Refusal) → read_layout (write (layout_tree ts)) ≡ refused r → r.number ≡ 3 → ⊥
  layout_not_3 short = never_3 (input_passes 256 160 (layout_tree ts) (shaped ts) (texts_written set t ts read built) short)

  -- So 18 is not given because of a text: it is given because of the layout's length, or because of another question than 3.
  pub not_held : (out : ℕ) (r : Refusal) → write_layout out ts ≡ refused r → Unheld out (write (layout_tree ts))
  unfolding write_layout ◌>>=◌ ask
  not_held out r e = go (leb (length bs) out) (leb (length bs) 65536) (read_layout bs) refl refl refl e
    where
      bs : List ℕ
      bs = write (layout_tree ts)

      go : (a b : Bool) (o : Outcome Tree) → leb (length bs) out ≡ a → leb (length bs) 65536 ≡ b → read_layout bs ≡ o
          → (ask ((a && b) && answered o) (plain 18) >>= (λ _. done bs)) ≡ refused r → Unheld out bs
      go false b o ea eb eo h = Unheld.output (leb-false _ _ ea)
      go true false o ea eb eo h = Unheld.limit (leb-false _ _ eb)
      go true true (done l) ea eb eo h = absurd (not_done (sym h))
      go true true (refused q) ea eb eo h = Unheld.question q eo (layout_not_3 (leb-true _ _ eb) q eo)
