-- Where the blocks of a tree stand once it is written.
use Rattle.std.specs.Prelude.{ℕ, ◌+◌, length}
use Rattle.blocks.specs.Tree.{Tree, name, num, block, nil, cons}
use Rattle.blocks.specs.Write.{write}

-- the same tree, with the offsets that its blocks have where it is written from `at` on
unfoldable pub placed : ℕ → Tree → Tree
placed at (name n) = name n
placed at (num w v) = num w v
placed at (block o k t) = block at k (placed (at + 6) t)
placed at nil = nil
placed at (cons a b) = cons (placed at a) (placed (at + length (write a)) b)
