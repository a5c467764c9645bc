-- Trees whose names and texts all pass question 3.
use Rattle.std.specs.Prelude.{◌≡◌, true}
use Rattle.blocks.specs.Name.{Name, is_text}
use Rattle.blocks.specs.Tree.{Tree, name, num, block, nil, cons}

-- 3: "valid UTF-8 (RFC 3629), without bytes below 0x20 and without 0x7F; the limit of 255 bytes is unchanged"
abbrev pub IsText : Name → Type 0
IsText n = is_text n ≡ true

-- every name and text in a tree passes question 3
abbrev pub Texts : Tree → Type 0
Texts (name n) = IsText n
Texts (num w v) = Unit
Texts (block at k t) = Texts t
Texts nil = Unit
Texts (cons a b) = Texts a × Texts b
