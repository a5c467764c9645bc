-- What holds of each entry of a list, of the value that there may be, and of both branches of a test.
use mathlib.Core.Bool.{Bool, true, false, cond}
use mathlib.Core.List.{List, [], ◌∷◌, ◌++◌}
use mathlib.Core.Option.{Option}

-- of each entry
pub data All {A : Type 0} (P : A → Type 0) : List A → Type 0 where
  none : All P []
  more : {x : A} {xs : List A} → P x → All P xs → All P (x ∷ xs)

-- of the value, if there is one
pub data Maybe {A : Type 0} (P : A → Type 0) : Option A → Type 0 where
  none : Maybe P Option.none
  some : {a : A} → P a → Maybe P (Option.some a)

-- nothing is asked
abbrev pub Any : {A : Type 0} → A → Type 0
Any a = Unit

module _ {A : Type 0} where
  -- of one list behind another
  pub all_append : {P : A → Type 0} {xs ys : List A} → All P xs → All P ys → All P (xs ++ ys)
  all_append All.none b = b
  all_append (All.more p a) b = All.more p (all_append a b)

  -- where the one holds the other does: of each entry
  pub all_map : {P Q : A → Type 0} → ((a : A) → P a → Q a) → {xs : List A} → All P xs → All Q xs
  all_map f All.none = All.none
  all_map f (All.more p a) = All.more (f _ p) (all_map f a)

  -- of the value
  pub maybe_map : {P Q : A → Type 0} → ((a : A) → P a → Q a) → {o : Option A} → Maybe P o → Maybe Q o
  maybe_map f Maybe.none = Maybe.none
  maybe_map f (Maybe.some p) = Maybe.some (f _ p)

  -- of a value of which nothing is asked
  pub whatever : (o : Option A) → Maybe Any o
  whatever Option.none = Maybe.none
  whatever (Option.some a) = Maybe.some tt

  -- of what a test chooses: used where it does not matter which
  pub either : (P : A → Type 0) (b : Bool) {x y : A} → P x → P y → P (cond b x y)
  either P true p q = p
  either P false p q = q
