-- The leaves of names (docs/FIELDS.md).
use Rattle.std.specs.Prelude.{ℕ}

abbrev pub count : ℕ
count = 1

abbrev pub parent_dynamic : ℕ
parent_dynamic = 2

abbrev pub range_dynamic : ℕ
range_dynamic = 3

abbrev pub position_precision_encoded : ℕ
position_precision_encoded = 4

abbrev pub rotation_precision_encoded : ℕ
rotation_precision_encoded = 5

abbrev pub parent_update : ℕ
parent_update = 6

abbrev pub absolute_parent : ℕ
absolute_parent = 7

abbrev pub parent_index : ℕ
parent_index = 8

abbrev pub range_update : ℕ
range_update = 9

abbrev pub range_encoded : ℕ
range_encoded = 10

abbrev pub position_present : ℕ
position_present = 11

abbrev pub position_delta : ℕ
position_delta = 12

abbrev pub polar : ℕ
polar = 13

-- `position_encoded[k]`
abbrev pub position_encoded : ℕ
position_encoded = 14

abbrev pub rotation_present : ℕ
rotation_present = 15

abbrev pub rotation_delta : ℕ
rotation_delta = 16

-- `rotation_encoded[k]`
abbrev pub rotation_encoded : ℕ
rotation_encoded = 17

abbrev pub extensions_present : ℕ
extensions_present = 18

-- `extensions[k].type`
abbrev pub extension_type : ℕ
extension_type = 19

-- `extensions[k].length_width_minus_four`
abbrev pub length_width_minus_four : ℕ
length_width_minus_four = 20

-- `extensions[k].bits_minus_one`
abbrev pub bits_minus_one : ℕ
bits_minus_one = 21

-- `extensions[k].payload`
abbrev pub extension_payload : ℕ
extension_payload = 22

abbrev pub updated : ℕ
updated = 23

abbrev pub compression_present : ℕ
compression_present = 24

abbrev pub configuration_present : ℕ
configuration_present = 25

abbrev pub parameters_present : ℕ
parameters_present = 26

abbrev pub parameter_count : ℕ
parameter_count = 27

abbrev pub group_count : ℕ
group_count = 28

abbrev pub type : ℕ
type = 29

abbrev pub parameter0 : ℕ
parameter0 = 30

abbrev pub parameter1 : ℕ
parameter1 = 31

-- how much further the leaves of a resource are that is named: `resource.type` for `type`
abbrev pub resource : ℕ
resource = 3

abbrev pub bytes : ℕ
bytes = 35

abbrev pub initial_width_minus_one : ℕ
initial_width_minus_one = 36

abbrev pub maximum_width_delta : ℕ
maximum_width_delta = 37

abbrev pub table_count_minus_one : ℕ
table_count_minus_one = 38

abbrev pub symbol_width_minus_one : ℕ
symbol_width_minus_one = 39

-- `codes[k].width_minus_one`
abbrev pub code_width_minus_one : ℕ
code_width_minus_one = 40

-- `codes[k].code`
abbrev pub code : ℕ
code = 41

abbrev pub value_width_minus_one : ℕ
value_width_minus_one = 42

-- `values_encoded[k]`
abbrev pub values_encoded : ℕ
values_encoded = 43

abbrev pub parameter_present : ℕ
parameter_present = 44

abbrev pub parameter_bits : ℕ
parameter_bits = 45

abbrev pub padding : ℕ
padding = 46

abbrev pub payload : ℕ
payload = 47

abbrev pub id : ℕ
id = 48

abbrev pub encoded : ℕ
encoded = 49

-- `encoded[k]` of renderer data
abbrev pub renderer_values : ℕ
renderer_values = 50

abbrev pub gain_encoded : ℕ
gain_encoded = 51

abbrev pub unit_range : ℕ
unit_range = 52

abbrev pub cartesian : ℕ
cartesian = 53

-- `items[k].default`
abbrev pub item_default : ℕ
item_default = 54

-- `items[k].encoded[m]`
abbrev pub item_encoded : ℕ
item_encoded = 55

abbrev pub mask_bits_minus_one : ℕ
mask_bits_minus_one = 56

abbrev pub mask : ℕ
mask = 57

abbrev pub value_present : ℕ
value_present = 58

abbrev pub value_encoded : ℕ
value_encoded = 59

abbrev pub index : ℕ
index = 60

abbrev pub mode : ℕ
mode = 61

abbrev pub label : ℕ
label = 62

abbrev pub layout_encoded : ℕ
layout_encoded = 63

abbrev pub speaker_count : ℕ
speaker_count = 64

-- `speakers[k].encoded[m]`
abbrev pub speaker_encoded : ℕ
speaker_encoded = 65

-- `speakers[k].default_distance`
abbrev pub speaker_default_distance : ℕ
speaker_default_distance = 66

-- `speakers[k].distance_encoded`
abbrev pub speaker_distance_encoded : ℕ
speaker_distance_encoded = 67

-- `speakers[k].value_encoded`
abbrev pub speaker_value_encoded : ℕ
speaker_value_encoded = 68

-- `speakers[k].type`
abbrev pub speaker_type : ℕ
speaker_type = 69

abbrev pub predefined : ℕ
predefined = 70

abbrev pub bytes_minus_one : ℕ
bytes_minus_one = 71

abbrev pub channels_minus_one : ℕ
channels_minus_one = 72

-- `channels[k]`
abbrev pub channels : ℕ
channels = 73

abbrev pub default : ℕ
default = 74

abbrev pub component_reference : ℕ
component_reference = 75

abbrev pub component_index : ℕ
component_index = 76

abbrev pub component_type : ℕ
component_type = 77

abbrev pub parameter1_present : ℕ
parameter1_present = 78

abbrev pub channel_count_minus_one : ℕ
channel_count_minus_one = 79

abbrev pub contiguous_channels : ℕ
contiguous_channels = 80

abbrev pub first_channel : ℕ
first_channel = 81

-- `channel_indices[k]`
abbrev pub channel_indices : ℕ
channel_indices = 82

abbrev pub data_present : ℕ
data_present = 83

abbrev pub legacy_spread : ℕ
legacy_spread = 84

abbrev pub height_present : ℕ
height_present = 85

abbrev pub height_encoded : ℕ
height_encoded = 86

abbrev pub precision_encoded : ℕ
precision_encoded = 87

abbrev pub third_dimension : ℕ
third_dimension = 88

abbrev pub present : ℕ
present = 89

abbrev pub all : ℕ
all = 90

-- `regions[k].predefined`
abbrev pub region_predefined : ℕ
region_predefined = 91

-- `regions[k].index`
abbrev pub region_index : ℕ
region_index = 92

-- `regions[k].encoded[m]`
abbrev pub region_encoded : ℕ
region_encoded = 93

-- `reverb.parameters[k].present`
abbrev pub reverb_present : ℕ
reverb_present = 94

-- `reverb.parameters[k].encoded`
abbrev pub reverb_encoded : ℕ
reverb_encoded = 95

-- `reverb.flag`
abbrev pub reverb_flag : ℕ
reverb_flag = 96

abbrev pub fallback_type : ℕ
fallback_type = 97

abbrev pub flag : ℕ
flag = 98

abbrev pub order : ℕ
order = 99

abbrev pub location : ℕ
location = 100

abbrev pub layout_tag : ℕ
layout_tag = 101

abbrev pub float_coefficients : ℕ
float_coefficients = 102

abbrev pub scale_bits : ℕ
scale_bits = 103

abbrev pub coefficient_bits : ℕ
coefficient_bits = 104

abbrev pub precision : ℕ
precision = 105

abbrev pub pattern : ℕ
pattern = 106

abbrev pub count_minus_one : ℕ
count_minus_one = 107

-- `bands[k].unity`
abbrev pub band_unity : ℕ
band_unity = 108

-- `bands[k].frequency_minus_one`
abbrev pub band_frequency_minus_one : ℕ
band_frequency_minus_one = 109

-- `bands[k].compact`
abbrev pub band_compact : ℕ
band_compact = 110

-- `bands[k].encoded[m]`
abbrev pub band_encoded : ℕ
band_encoded = 111

-- `bands[k].gain_encoded`
abbrev pub band_gain_encoded : ℕ
band_gain_encoded = 112

abbrev pub unity : ℕ
unity = 113

abbrev pub angle_encoded : ℕ
angle_encoded = 114

-- `sizes_minus_one[k]`
abbrev pub sizes_minus_one : ℕ
sizes_minus_one = 115

-- `encoded[k]` of a global parameter, which has fewer
abbrev pub global_values : ℕ
global_values = 116
