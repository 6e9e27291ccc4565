-- The words of the notation: the name of each call, and the key before each of its numbers. Letters are given by their ASCII codes.
use Rattle.std.specs.Prelude.{◌&&◌, List, [], ◌∷◌, ◌++◌, map, ℕ, ◌+◌, ◌*◌, ltb, get_or}
use Rattle.lists.specs.Lists.{when◌then◌else◌}

-- no key: the number stands behind a comma, or there is none
abbrev pub nokey : List ℕ
nokey = []

abbrev pub pools : List ℕ
pools = 112 ∷ 111 ∷ 111 ∷ 108 ∷ 115 ∷ []

abbrev pub least : List ℕ
least = 108 ∷ 101 ∷ 97 ∷ 115 ∷ 116 ∷ []

abbrev pub members : List ℕ
members = 109 ∷ 101 ∷ 109 ∷ 98 ∷ 101 ∷ 114 ∷ 115 ∷ []

abbrev pub hedge : List ℕ
hedge = 104 ∷ 101 ∷ 100 ∷ 103 ∷ 101 ∷ []

abbrev pub other : List ℕ
other = 111 ∷ 116 ∷ 104 ∷ 101 ∷ 114 ∷ []

abbrev pub margin : List ℕ
margin = 109 ∷ 97 ∷ 114 ∷ 103 ∷ 105 ∷ 110 ∷ []

abbrev pub fund : List ℕ
fund = 102 ∷ 117 ∷ 110 ∷ 100 ∷ []

abbrev pub house : List ℕ
house = 104 ∷ 111 ∷ 117 ∷ 115 ∷ 101 ∷ []

abbrev pub pool : List ℕ
pool = 112 ∷ 111 ∷ 111 ∷ 108 ∷ []

abbrev pub units : List ℕ
units = 117 ∷ 110 ∷ 105 ∷ 116 ∷ 115 ∷ []

abbrev pub mark : List ℕ
mark = 109 ∷ 97 ∷ 114 ∷ 107 ∷ []

abbrev pub member : List ℕ
member = 109 ∷ 101 ∷ 109 ∷ 98 ∷ 101 ∷ 114 ∷ []

abbrev pub contribution : List ℕ
contribution = 99 ∷ 111 ∷ 110 ∷ 116 ∷ 114 ∷ 105 ∷ 98 ∷ 117 ∷ 116 ∷ 105 ∷ 111 ∷ 110 ∷ []

abbrev pub expected : List ℕ
expected = 101 ∷ 120 ∷ 112 ∷ 101 ∷ 99 ∷ 116 ∷ 101 ∷ 100 ∷ []

abbrev pub reserves : List ℕ
reserves = 114 ∷ 101 ∷ 115 ∷ 101 ∷ 114 ∷ 118 ∷ 101 ∷ 115 ∷ []

abbrev pub price : List ℕ
price = 112 ∷ 114 ∷ 105 ∷ 99 ∷ 101 ∷ []

abbrev pub amount : List ℕ
amount = 97 ∷ 109 ∷ 111 ∷ 117 ∷ 110 ∷ 116 ∷ []

abbrev pub bid : List ℕ
bid = 98 ∷ 105 ∷ 100 ∷ []

-- the keys, a row for each tag
abbrev pub keys : List (List ℕ)
keys =
    nokey ∷ nokey ∷ nokey ∷ nokey ∷ nokey ∷ nokey ∷ nokey ∷ nokey
    ∷ pools ∷ least ∷ members ∷ hedge ∷ other ∷ margin ∷ fund ∷ house
    ∷ pool ∷ units ∷ mark ∷ nokey ∷ nokey ∷ nokey ∷ nokey ∷ nokey
    ∷ member ∷ contribution ∷ expected ∷ nokey ∷ nokey ∷ nokey ∷ nokey ∷ nokey
    ∷ reserves ∷ nokey ∷ nokey ∷ nokey ∷ nokey ∷ nokey ∷ nokey ∷ nokey
    ∷ pool ∷ member ∷ units ∷ price ∷ nokey ∷ nokey ∷ nokey ∷ nokey
    ∷ nokey ∷ nokey ∷ nokey ∷ nokey ∷ nokey ∷ nokey ∷ nokey ∷ nokey
    ∷ pool ∷ price ∷ nokey ∷ nokey ∷ nokey ∷ nokey ∷ nokey ∷ nokey
    ∷ pool ∷ price ∷ nokey ∷ nokey ∷ nokey ∷ nokey ∷ nokey ∷ nokey
    ∷ nokey ∷ nokey ∷ nokey ∷ nokey ∷ nokey ∷ nokey ∷ nokey ∷ nokey
    ∷ member ∷ amount ∷ nokey ∷ nokey ∷ nokey ∷ nokey ∷ nokey ∷ nokey
    ∷ member ∷ nokey ∷ nokey ∷ nokey ∷ nokey ∷ nokey ∷ nokey ∷ nokey
    ∷ member ∷ price ∷ nokey ∷ nokey ∷ nokey ∷ nokey ∷ nokey ∷ nokey
    ∷ nokey ∷ nokey ∷ nokey ∷ nokey ∷ nokey ∷ nokey ∷ nokey ∷ nokey
    ∷ pool ∷ member ∷ price ∷ nokey ∷ nokey ∷ nokey ∷ nokey ∷ nokey
    ∷ member ∷ bid ∷ nokey ∷ nokey ∷ nokey ∷ nokey ∷ nokey ∷ nokey
    ∷ []

-- the names of the calls, by tag: HEAD, POOL, MEMBER, ROUND, BID, CLOSE, ALLOCATE, TEAR, CALL, PAY, MOVE, MISS, FINISH, SALE, WITHDRAW
abbrev pub names : List (List ℕ)
names =
    []
    ∷ (72 ∷ 69 ∷ 65 ∷ 68 ∷ [])
    ∷ (80 ∷ 79 ∷ 79 ∷ 76 ∷ [])
    ∷ (77 ∷ 69 ∷ 77 ∷ 66 ∷ 69 ∷ 82 ∷ [])
    ∷ (82 ∷ 79 ∷ 85 ∷ 78 ∷ 68 ∷ [])
    ∷ (66 ∷ 73 ∷ 68 ∷ [])
    ∷ (67 ∷ 76 ∷ 79 ∷ 83 ∷ 69 ∷ [])
    ∷ (65 ∷ 76 ∷ 76 ∷ 79 ∷ 67 ∷ 65 ∷ 84 ∷ 69 ∷ [])
    ∷ (84 ∷ 69 ∷ 65 ∷ 82 ∷ [])
    ∷ (67 ∷ 65 ∷ 76 ∷ 76 ∷ [])
    ∷ (80 ∷ 65 ∷ 89 ∷ [])
    ∷ (77 ∷ 79 ∷ 86 ∷ 69 ∷ [])
    ∷ (77 ∷ 73 ∷ 83 ∷ 83 ∷ [])
    ∷ (70 ∷ 73 ∷ 78 ∷ 73 ∷ 83 ∷ 72 ∷ [])
    ∷ (83 ∷ 65 ∷ 76 ∷ 69 ∷ [])
    ∷ (87 ∷ 73 ∷ 84 ∷ 72 ∷ 68 ∷ 82 ∷ 65 ∷ 87 ∷ [])
    ∷ []

-- the key of a call's number i
unfoldable pub key_of : ℕ → ℕ → List ℕ
key_of tag i = when ltb tag 16 && ltb i 8 then get_or keys (tag * 8 + i) [] else []

unfoldable pub name_of : ℕ → List ℕ
name_of tag = get_or names tag []

-- what stands before a number: its key between spaces, or a comma
unfoldable pub separator : List ℕ → List ℕ
separator [] = 44 ∷ []
separator (a ∷ w) = 32 ∷ a ∷ w ++ (32 ∷ [])

-- what stands before the numbers of the calls, eight for each tag, and the names of the calls
unfoldable pub pieces : List (List ℕ)
pieces = map separator keys ++ names
