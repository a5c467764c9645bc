-- Writing: the bytes of a tree.
use Rattle.std.specs.Prelude.{ℕ, ◌+◌, List, [], ◌++◌, length}
use Rattle.blocks.specs.Bytes.{bytes}
use Rattle.blocks.specs.Tree.{Tree, name, num, block, nil, cons}

-- "A block is a 4-byte length that counts what follows it, a 2-byte kind, a body"; "A name or a text is a 2-byte length
-- and its bytes". A block's offset is not written.
unfoldable pub write : Tree → List ℕ
write (name n) = bytes 2 (length n) ++ n
write (num w v) = bytes w v
write (block at k t) = bytes 4 (2 + length (write t)) ++ (bytes 2 k ++ write t)
write nil = []
write (cons a b) = write a ++ write b
