-- A schema that no text declares: the root of its third table is no root. A key of that table in one group is a key of the first in another.
use Rattle.std.specs.Prelude.{ℕ, negsuc, false, true, List, [], ◌∷◌, codes}
use Rattle.mega_base.specs.declared.names.GroupId.{GroupId}
use Rattle.mega_base.specs.declared.values.Kind.TheVariants.{Bool, Int32}
use Rattle.mega_base.specs.declared.values.Row.{Row}
use Rattle.mega_base.specs.declared.values.Value.{Value}
use Rattle.mega_base.specs.declared.values.Value.TheVariants.{Bool as Truth, Int32 as Number}
use Rattle.mega_syntax.specs.declared.need.Need.TheVariants.{Required}
use Rattle.mega_schema.specs.declared.schema.Property.{Property}
use Rattle.mega_schema.specs.declared.schema.Schema.{Schema}
use Rattle.mega_schema.specs.declared.schema.Table.{Table}

abbrev pub user_is : Property
user_is = record { name = codes "user"; need = Required; kind = Bool }

abbrev pub photo_is : Property
photo_is = record { name = codes "photo"; need = Required; kind = Int32 }

-- photos stand in the groups of users, and tags in groups of photos
abbrev pub photos : Table
photos = record { name = codes "Photo"; properties = user_is ∷ photo_is ∷ []; primary = 1 ∷ 2 ∷ []; root = 2; group = 1 ∷ []; inside = false; scatter = false }

abbrev pub users : Table
users = record { name = codes "User"; properties = user_is ∷ []; primary = 1 ∷ []; root = 2; group = []; inside = false; scatter = false }

abbrev pub tags : Table
tags = record { name = codes "Tag"; properties = user_is ∷ photo_is ∷ []; primary = 1 ∷ 2 ∷ []; root = 1; group = 1 ∷ 2 ∷ []; inside = true; scatter = false }

abbrev pub mixed : Schema
mixed = record { name = codes "M"; tables = photos ∷ users ∷ tags ∷ []; indexes = [] }

-- the group of a user, and the values of the key of a photo there
abbrev pub of_user : GroupId
of_user = record { key = 2 ∷ 0 ∷ [] }

abbrev pub photo : List Value
photo = Truth false ∷ Number (negsuc 2147483644) ∷ []

-- the group of another photo, and a tag there
abbrev pub of_photo : GroupId
of_photo = record { key = 1 ∷ 0 ∷ 1 ∷ 0 ∷ 0 ∷ 0 ∷ [] }

abbrev pub tag : Row
tag = record { cells = (record { property = 1; values = Truth false ∷ [] }) ∷ (record { property = 2; values = Number (negsuc 2130706431) ∷ [] }) ∷ [] }

-- both have this key
abbrev pub shared : List ℕ
shared = 1 ∷ 0 ∷ 1 ∷ 0 ∷ 0 ∷ 0 ∷ 3 ∷ []
