-- When the types of two images agree ("Types agree if code, p1, p2, child counts and children agree").
use Rattle.std.specs.Prelude.{Bool, true, false, not, ◌&&◌, ◌||◌, List, [], ◌∷◌, ℕ, zero, suc, ◌+◌, eqb}
use Rattle.std.specs.Bool.{beq}
use Rattle.image.specs.declared.labels.Counted.{Counted}
use Rattle.image.specs.Ranges.{every}
use Rattle.image.specs.Bytes.{bytes_at}
use Rattle.image.specs.Record.{max_depth, code_of, id_of, name_length, p1_of, p2_of, name_place, first_child, child_count, nullable}
use Rattle.image.specs.TypeCode.{is_union, is_map}

-- two lists of numbers are the same
unfoldable pub same_bytes : List ℕ → List ℕ → Bool
same_bytes [] [] = true
same_bytes [] (y ∷ ys) = false
same_bytes (x ∷ xs) [] = false
same_bytes (x ∷ xs) (y ∷ ys) = eqb x y && same_bytes xs ys

-- a node's name
unfoldable pub name_of : List ℕ → ℕ → List ℕ
name_of s k = bytes_at s (name_place s k) (name_length s k)

-- the name and the nullable flag of a child of a node of that code do not count: "They do not count for .. a Dictionary's child",
-- and of a Map "the entries' name and flag .. do not count either"
unfoldable pub unlabelled : ℕ → Bool
unlabelled code = eqb code 41 || is_map code

-- What counts for the children of a node of that code, which may be the entries of a Map: "A child's name and nullable flag count, a
-- union child's id too"; of the children of a Map's entries "the names of key and value do not count". "From now on the rule for a
-- Map at the root holds for each Map in the tree."
unfoldable pub counted_for : Bool → ℕ → Counted
counted_for entries code = record { name = not (unlabelled code) && not entries; flag = not (unlabelled code); id = is_union code }

-- what counts of two children agrees
unfoldable pub labels_agree : Counted → List ℕ → List ℕ → ℕ → ℕ → Bool
labels_agree c s t i j =
    (not c.name || same_bytes (name_of s i) (name_of t j))
    && (not c.flag || beq (nullable s i) (nullable t j))
    && (not c.id || eqb (id_of s i) (id_of t j))

-- code, p1, p2 and child counts of two nodes agree
unfoldable pub heads_agree : List ℕ → List ℕ → ℕ → ℕ → Bool
heads_agree s t i j =
    eqb (code_of s i) (code_of t j)
    && eqb (p1_of s i) (p1_of t j)
    && eqb (p2_of s i) (p2_of t j)
    && eqb (child_count s i) (child_count t j)

-- The types of node i of s and node j of t agree, down to the given depth; an accepted image has none below depth 16. The Bool
-- says whether the nodes are the entries of a Map.
unfoldable pub types_agree_at : ℕ → Bool → List ℕ → List ℕ → ℕ → ℕ → Bool
types_agree_at zero entries s t i j = true
types_agree_at (suc depth) entries s t i j =
    heads_agree s t i j
    && every (λ c. labels_agree (counted_for entries (code_of s i)) s t (first_child s i + c) (first_child t j + c)
    && types_agree_at depth (is_map (code_of s i)) s t (first_child s i + c) (first_child t j + c)) 0 (child_count s i)

-- "They do not count for the root": the types of two images agree
unfoldable pub types_agree : List ℕ → List ℕ → Bool
types_agree s t = types_agree_at max_depth false s t 0 0
